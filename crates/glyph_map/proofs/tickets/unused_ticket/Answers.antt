use Rattle.std.proofs.Common.{◌<◌, length, arith}
use Rattle.glyph_map.proofs.Unused.{unused}
use Rattle.glyph_map.proofs.tickets.unused_ticket.Goals as goal

pub unreachable-requires : goal.unreachable-requires
unreachable-requires c =
    let long : length c.args.cache.now.entries < c.loop-ticket.ticket =
    let all = c.len.ensures.len in
    let end = c.loop-ticket-test.false in
    omega arith in
    unused c.args.cache.now.entries c.loop-ticket.ticket long c.loop-ticket.invariant.taken
