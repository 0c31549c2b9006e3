-- How long a number in a line can be.
use Rattle.std.proofs.Common.{ℕ, ◌≤◌, length, decimal, arith}
use Rattle.std.proofs.lemmas.Fmt.{length-decimal-le}

-- a number up to 100000 has at most six digits
pub at_most_six_digits : (n : ℕ) → n ≤ 100000 → length (decimal n) ≤ 6
at_most_six_digits n h = length-decimal-le 6 n (omega arith) (omega arith) (omega arith)
