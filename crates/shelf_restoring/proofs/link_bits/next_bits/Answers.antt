use Rattle.std.proofs.Common.{◌≡◌, ◌∙◌, ap, sym, List, ℕ, ◌++◌, ◌∷◌, [], arith, below_more}
use Rattle.etagere_links.specs.Links.{bits_of, link_of}
use Rattle.etagere_links.specs.Edits.{link_at}
use Rattle.shelf_restoring.proofs.LinkBits.{bits-more, bits-all, fitting-all}
use Rattle.shelf_restoring.proofs.link_bits.next_bits.Goals as goal

pub loop-number-preserved : goal.loop-number-preserved
loop-number-preserved g c =
    let link = g.T.Linked.family.next in
    let records = c.args.records.now in
    let number = c.loop-number.number in
    let read : c.bits.result ≡ bits_of (link_at link records number) = c.bits.ensures.value ∙ ap bits_of c.next_of.ensures in
    record {
      room = omega (arith, c.loop-number.invariant.room, c.push_reserved.ensures.capacity);
      bits = c.push_reserved.ensures.items ∙ ap (λ (all : List ℕ). all ++ c.bits.result ∷ []) c.loop-number.invariant.bits ∙ bits-more link records number c.bits.result c.loop-number-test.true read;
      fit = below_more (λ k. link_of (bits_of (link_at link records k)) ≡ link_at link records k) number c.loop-number.invariant.fit
          (ap link_of (sym read) ∙ c.bits.ensures.link ∙ c.next_of.ensures);
    }

pub returns-clause-bits : goal.returns-clause-bits
returns-clause-bits g c = c.loop-number.invariant.bits ∙ bits-all g.T.Linked.family.next c.args.records.now c.loop-number.number c.loop-number-test.false

pub returns-clause-fit : goal.returns-clause-fit
returns-clause-fit g c = fitting-all g.T.Linked.family.next c.args.records.now c.loop-number.number c.loop-number-test.false c.loop-number.invariant.fit
