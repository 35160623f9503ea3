use Rattle.std.proofs.Common.{◌≡◌, ◌+ℤ◌, ◌-ℤ◌, pos, refl, rules}
use Rattle.padding.specs.Padding.{trimmed}
use Rattle.padding.proofs.caches.trimming.without_padding.Goals as goal

pub returns : goal.returns
returns c = λ near.
    let min = c.args.rectangle.min in
    let max = c.args.rectangle.max in
    let padding = c.args.padding in
    let left : c.after.result ≡ min.x +ℤ pos padding.left = search (rules, c.after.ensures, near.left) in
    let top : c.after-2.result ≡ min.y +ℤ pos padding.top = search (rules, c.after-2.ensures, near.top) in
    let right : c.before-2.result ≡ max.x -ℤ pos padding.right = search (rules, c.before-2.ensures, near.right) in
    let bottom : c.before-3.result ≡ max.y -ℤ pos padding.bottom = search (rules, c.before-3.ensures, near.bottom) in
    let low : c.point2.result ≡ (trimmed padding c.args.rectangle).min = search (rules, c.point2.ensures, left, top) in
    let high : c.point2-2.result ≡ (trimmed padding c.args.rectangle).max = search (rules, c.point2-2.ensures, right, bottom) in
    rw (low, high) refl
