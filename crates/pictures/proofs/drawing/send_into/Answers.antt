-- A part of a document: the lines alone, or a picture that fills a rectangle.
use Rattle.std.proofs.Common.{Bor, OnErr, OnOk, Option, option_map, subst, sym}
use Rattle.std.specs.Io.KnownBytes.{Appends}
use Rattle.etagere_base.specs.Drawing.{document_part, picture_of}
use Rattle.pictures.specs.Sending.{AppendsBeginning}
use Rattle.etagere_base.specs.declared.geometry.Rectangle.{Rectangle}
use Rattle.pictures.proofs.drawing.send_into.Goals as goal

-- all lines went out
pub returns-in-None-clause-ok : goal.returns-in-None-clause-ok
returns-in-None-clause-ok g c =
    let old = g.W.Write.contents c.args.writer.now in
    let new = g.W.Write.contents c.send_picture.new.writer in
    let frame = g.P.Pictured.framed c.args.atlas.now in
    subst (λ (r : Option (Bor Rectangle)). OnOk c.send_picture.result (Appends old new
    (document_part frame.width frame.height (picture_of frame (g.P.Pictured.shown c.args.atlas.now)) (option_map (λ rectangle. rectangle.now) r))))
    (sym c.in-None.is) c.send_picture.ensures.ok

-- a beginning went out of the lines
pub returns-in-None-clause-err : goal.returns-in-None-clause-err
returns-in-None-clause-err g c =
    let old = g.W.Write.contents c.args.writer.now in
    let new = g.W.Write.contents c.send_picture.new.writer in
    let frame = g.P.Pictured.framed c.args.atlas.now in
    subst (λ (r : Option (Bor Rectangle)). OnErr c.send_picture.result (AppendsBeginning old new
    (document_part frame.width frame.height (picture_of frame (g.P.Pictured.shown c.args.atlas.now)) (option_map (λ rectangle. rectangle.now) r))))
    (sym c.in-None.is) c.send_picture.ensures.err

-- all went out of a picture that fills a rectangle
pub returns-in-Some-clause-ok : goal.returns-in-Some-clause-ok
returns-in-Some-clause-ok g c =
    let old = g.W.Write.contents c.args.writer.now in
    let new = g.W.Write.contents c.send_part.new.writer in
    let frame = g.P.Pictured.framed c.args.atlas.now in
    subst (λ (r : Option (Bor Rectangle)). OnOk c.send_part.result (Appends old new
    (document_part frame.width frame.height (picture_of frame (g.P.Pictured.shown c.args.atlas.now)) (option_map (λ rectangle. rectangle.now) r))))
    (sym c.in-Some.is) c.send_part.ensures.ok

-- a beginning went out of a picture that fills a rectangle
pub returns-in-Some-clause-err : goal.returns-in-Some-clause-err
returns-in-Some-clause-err g c =
    let old = g.W.Write.contents c.args.writer.now in
    let new = g.W.Write.contents c.send_part.new.writer in
    let frame = g.P.Pictured.framed c.args.atlas.now in
    subst (λ (r : Option (Bor Rectangle)). OnErr c.send_part.result (AppendsBeginning old new
    (document_part frame.width frame.height (picture_of frame (g.P.Pictured.shown c.args.atlas.now)) (option_map (λ rectangle. rectangle.now) r))))
    (sym c.in-Some.is) c.send_part.ensures.err
