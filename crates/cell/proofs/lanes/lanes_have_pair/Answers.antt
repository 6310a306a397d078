use Rattle.std.specs.Prelude.{◌≡◌, ◌*◌, ◌/◌, ◌==◌}
use Rattle.cell.specs.{◌∙◌, length, ap, length-map, list_all, glyph_bits}
use Rattle.cell.proofs.LaneLaws.{lanes_alike, pairs_of}
use Rattle.cell.proofs.lanes.lanes_have_pair.Goals as goal

pub returns : goal.returns
returns c =
    let xs = c.cell_lanes.result in
    let pair : c.from-wanted.result ≡ c.args.pair = c.from-wanted.ensures ∙ c.number.ensures.value in
    let long : length xs ≡ 16 = ap length c.cell_lanes.ensures.bits ∙ length-map c.args.cells.now glyph_bits ∙ c.requires in
    lanes_alike (c.from-wanted.result * 65536) xs long
    ∙ (λ i. list_all (λ x. x / 65536 == pair i * 65536 / 65536) (c.cell_lanes.ensures.bits i)) ∙ pairs_of c.args.cells.now c.args.pair c.cell_lanes.ensures.sound
