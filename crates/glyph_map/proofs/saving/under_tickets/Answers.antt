use Rattle.std.proofs.Common.{◌<◌, ◌≤◌, ◌^◌, ap, length, arith, rules}
use Rattle.lru.specs.LruCache.{LruCache}
use Rattle.glyph_map.specs.declared.ticketed.Ticketed.{Ticketed}
use Rattle.glyph_map.proofs.Saved.{entering-length, entering-none, entering-refused}
use Rattle.glyph_map.proofs.saving.under_tickets.Goals as goal

pub loop-ticket-init : goal.loop-ticket-init
loop-ticket-init g c =
    record {
      entering = entering-none c.args.pairs.items c.args.cache.now c.iter-tickets.result c.in-Ok.entries c.in-Ok.ensures c.iter-tickets.ensures.listed c.requires;
      room = search rules;
    }

pub enter_last-requires-clause-room : goal.enter_last-requires-clause-room
enter_last-requires-clause-room g c =
    let long = entering-length c.args.pairs.items c.args.cache.now c.loop-ticket.tickets c.loop-ticket.left.items c.loop-ticket.entries c.loop-ticket.invariant.entering in
    let cap = c.loop-ticket.invariant.entering.unbounded in
    let some : 1 ≤ length c.loop-ticket.left.items = search rules in
    let few : length c.args.pairs.items < 2 ^ 64 = search rules in
    omega arith

pub give_back-requires : goal.give_back-requires
give_back-requires g c =
    let long = entering-length c.args.pairs.items c.args.cache.now c.loop-ticket.tickets c.loop-ticket.left.items c.loop-ticket.entries c.loop-ticket.invariant.entering in
    let room = c.loop-ticket.invariant.room in
    let same = c.in-Err.ensures.err in
    let left = ap length same.0 in
    let entries = ap (λ (l : LruCache g.row.K.Denot (Ticketed g.row.V.Denot)). length l.entries) same.1 in
    let kept = c.enter_last.ensures.capacity in
    omega arith

pub returns-in-Err-clause-fault : goal.returns-in-Err-clause-fault
returns-in-Err-clause-fault g c =
    entering-refused c.args.pairs.items c.args.cache.now c.loop-ticket.tickets c.loop-ticket.left.items c.loop-ticket.entries c.loop-ticket.invariant.entering
    g.K.PartialEq.eq c.in-Err.fault c.in-Err.ensures.fault
