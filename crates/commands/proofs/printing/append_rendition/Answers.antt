use Rattle.commands.specs.{append_assoc}
use Rattle.commands.proofs.printing.append_rendition.Goals as goal

pub returns : goal.returns
returns c =
    rw (c.append-3.ensures, c.append_signs.ensures.text, c.append-2.ensures, c.append.ensures, c.hex_digits.ensures.all c.attrs.ensures.of_the_six, c.attrs.ensures.value)
    (simp append_assoc)
