-- What a terminal shows after the opening.
use Rattle.std.specs.Prelude.{◌≡◌, ◌<◌, ◌∷◌, ◌++◌}
use Rattle.paint.specs.{ℕ, List, [], length, map, Some, refl, sym, ap, ◌∙◌, subst, arith, AllByRecursion, digits, splat_is_map, lt-ltb, no_rendition, shown_blank, Picture, HasSize, blank_picture}
use Rattle.paint.specs.{line_of, origin, Cup, Sgr, Ed, Terminal, blank_line, Leads, showing, spelling, codes_of_attributes, opening}
use Rattle.cell.proofs.PictureLemmas.{HasSize-all_of, IsRendition-none, length-line}
use Rattle.ecma.specs.declared.token.Erase.TheVariants.{All}
use Rattle.ecma.proofs.Leading.{Leads-token}
use Rattle.ecma.proofs.Joining.{Leads-append}

-- the opening is three tokens
pub opening-spelled : opening ≡ spelling (Sgr no_rendition) ++ spelling (Ed All) ++ spelling (Cup 0 0)
unfolding spelling codes_of_attributes digits
opening-spelled = refl

pub blank_line-all : (columns : ℕ) (picture : Picture) → AllByRecursion (λ line. length line ≡ columns) picture → map blank_line picture ≡ blank_picture (length picture) columns
blank_line-all columns [] h = refl
blank_line-all columns (line ∷ picture) h =
    let first = splat_is_map line columns shown_blank h.0 in
    let others = blank_line-all columns picture h.1 in
    λ i. sym first i ∷ others i

-- it shows a blank picture, read from any terminal
pub opening-leads : (lines columns : ℕ) (t : Terminal) → HasSize lines columns t.picture → 0 < lines → 0 < columns → Leads opening t (showing (blank_picture lines columns) origin)
opening-leads lines columns t size some_lines some_columns =
    let blank = blank_picture lines columns in
    let cleared : map blank_line t.picture ≡ blank = blank_line-all columns t.picture size.width ∙ ap (λ n. blank_picture n columns) size.height in
    let wide : 0 < length (line_of blank 0) = omega (arith, length-line 0 (HasSize-all_of shown_blank lines columns) some_lines) in
    subst (λ (text : List ℕ). Leads text t (showing blank origin)) (sym opening-spelled)
    (Leads-append (spelling (Sgr no_rendition) ++ spelling (Ed All)) (spelling (Cup 0 0)) t (record t { picture = blank; rendition = no_rendition }) (showing blank origin)
    (Leads-append (spelling (Sgr no_rendition)) (spelling (Ed All)) t (record t { rendition = no_rendition }) (record t { picture = blank; rendition = no_rendition })
    (Leads-token (Sgr no_rendition) t (record t { rendition = no_rendition }) IsRendition-none refl)
    (Leads-token (Ed All) (record t { rendition = no_rendition }) (record t { picture = blank; rendition = no_rendition }) tt
    (λ i. Some (record { picture = cleared i; cursor = t.cursor; rendition = no_rendition }))))
    (Leads-token (Cup 0 0) (record t { picture = blank; rendition = no_rendition }) (showing blank origin) (omega arith, omega arith)
    (rw (lt-ltb 0 (length (line_of blank 0)) wide) refl)))
