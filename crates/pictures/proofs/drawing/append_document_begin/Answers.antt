use Rattle.std.proofs.Common.{append_assoc}
use Rattle.pictures.proofs.drawing.append_document_begin.Goals as goal

pub returns : goal.returns
returns c =
    rw (c.append.ensures, c.append_view.ensures.text, c.append_attribute-2.ensures.text, c.append_attribute.ensures.text)
    (simp append_assoc)
