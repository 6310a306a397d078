-- Each word is found among the words, and in the row of its first letter.
use Rattle.std.specs.Prelude.{◌≡◌}
use Rattle.script.specs.{ℕ, List, Option, None, Some, refl, sym, ap, ◌∙◌, bytes_eq-Decides, find_named, words_like, entry_of, word_of, words}
use Rattle.script.proofs.WordLemmas.{find-passes}
use Rattle.script.specs.declared.words.Word.{Word}
use Rattle.script.specs.declared.words.Word.TheVariants.{Making, Writing, Copying, Query, Stacking, Refresh}
use Rattle.script.specs.declared.written_words.MakingWord.TheVariants.{Newwin}
use Rattle.script.specs.declared.written_words.WritingWord.TheVariants.{Move}
use Rattle.script.specs.declared.written_words.CopyingWord.TheVariants.{Overlay}
use Rattle.script.specs.declared.written_words.QueryWord.TheVariants.{Getyx}
use Rattle.script.specs.declared.written_words.StackingWord.TheVariants.{NewPanel}
use Rattle.script.specs.declared.written_words.RefreshWord.TheVariants.{Noutrefresh}

pub found_both_ways : (word : Word) → (word_of (entry_of word).word ≡ Some word) × (find_named (words_like (entry_of word).word) (entry_of word).word ≡ Some word)
found_both_ways (Making Newwin) = (refl, refl)
found_both_ways (Making _) = (refl, refl)
found_both_ways (Writing Move) = (refl, refl)
found_both_ways (Writing _) = (refl, refl)
found_both_ways (Copying Overlay) = (refl, refl)
found_both_ways (Copying _) = (refl, refl)
found_both_ways (Query Getyx) = (refl, refl)
found_both_ways (Query _) = (refl, refl)
found_both_ways (Stacking NewPanel) = (refl, refl)
found_both_ways (Stacking _) = (refl, refl)
found_both_ways (Refresh Noutrefresh) = (refl, refl)
found_both_ways (Refresh _) = (refl, refl)

written_so : (words : List Word) (text : List ℕ) (word : Word) → find_named words text ≡ Some word → text ≡ (entry_of word).word
written_so words text word found = (bytes_eq-Decides text (entry_of word).word).0 (find-passes _ words word found)

-- The row of its first letter has a text's word, if it is one.
pub found_by_letter : (text : List ℕ) → find_named (words_like text) text ≡ word_of text
found_by_letter text = by_both _ _ refl refl
  where
    by_both : (a b : Option Word) → find_named (words_like text) text ≡ a → word_of text ≡ b → find_named (words_like text) text ≡ word_of text
    by_both (Some word) b e h = e ∙ sym (found_both_ways word).0 ∙ ap word_of (sym (written_so (words_like text) text word e))
    by_both None (Some word) e h = ap (λ t. find_named (words_like t) t) (written_so words text word h) ∙ (found_both_ways word).1 ∙ sym h
    by_both None None e h = e ∙ sym h
