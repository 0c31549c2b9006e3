-- A record that lies within what is left is its body's step.
use Rattle.std.proofs.Common.{◌≡◌, ℕ, ◌+◌, ◌-◌, ◌≤◌, List, length, take, drop, arith}
use Rattle.std.proofs.lemmas.Bool.{ne_eqb, le-ltb}
use Rattle.table.specs.Bytes.{le2}
use Rattle.table.specs.Reading.{body_step, part_step}

pub part_is_body : (b : List ℕ) (at : ℕ) → 4 ≤ length b → 4 ≤ le2 b 0 → le2 b 0 ≤ length b →
    part_step b at ≡ body_step (le2 b 2) (take (le2 b 0 - 4) (drop 4 b)) at (at + le2 b 0)
part_is_body b at h k m =
    let some = ne_eqb (length b) 0 (λ e. omega arith) in
    let four = le-ltb (length b) 4 h in
    let long = le-ltb (le2 b 0) 4 k in
    let within = le-ltb (length b) (le2 b 0) m in
    rw (some, four, long, within)
