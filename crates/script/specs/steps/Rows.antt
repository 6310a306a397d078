-- What the tables of words ensure: definitions for their own contracts.
use Rattle.std.specs.Prelude.{◌≡◌, ◌≤◌, ◌%◌, ◌∷◌}
use Rattle.script.specs.Names.{ℕ, List, [], length, Option, find, map, slice_index_or, bytes_eq}
use Rattle.script.specs.Words.{Arguments, Entry, entry_of, placeless}
use Rattle.script.specs.declared.limits.TheConstants.{MOST_ARGUMENTS}
use Rattle.script.specs.declared.words.Row.{Row}
use Rattle.script.specs.declared.words.Word.{Word}
use Rattle.script.specs.declared.written_words.TheConstants.{WORDS}

-- The row has the word and the forms of the entry, and the call that its arguments make.
pub record IsRow (row : Row) (entry : Entry) (a : Arguments) : Type 0 where
  pub word : row.word.now ≡ entry.word
  pub forms : row.forms.now ≡ entry.forms
  pub count : length row.forms.now ≤ MOST_ARGUMENTS
  pub call : placeless row.call ≡ entry.call a

-- the first of some words that is written so
abbrev pub find_named : List Word → List ℕ → Option Word
find_named words text = find (λ w. bytes_eq text (entry_of w).word) words

-- the words in the row of a text's first letter
abbrev pub words_like : List ℕ → List Word
words_like [] = []
words_like (letter ∷ letters) = slice_index_or (map (λ row. row.now) WORDS) (letter % 32) []
