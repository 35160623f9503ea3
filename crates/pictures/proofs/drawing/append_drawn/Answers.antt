use Rattle.std.proofs.Common.{append_assoc}
use Rattle.pictures.proofs.drawing.append_drawn.Goals as goal

pub returns : goal.returns
returns c =
    rw (c.append.ensures, c.append_attribute-4.ensures.text, c.append_attribute-3.ensures.text, c.append_attribute-2.ensures.text, c.append_attribute.ensures.text, c.text.ensures)
    (simp append_assoc)
