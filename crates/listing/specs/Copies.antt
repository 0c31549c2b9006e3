-- What copying a text into an output does.
use Rattle.std.specs.Prelude.{◌≡◌, ℕ, ◌<◌, ◌≤◌, List, ◌++◌, length, drop, Some, None, Option}

-- The output begins with the text and keeps its other bytes, and the answer is the text's length; or it is too short, and stays as it was.
abbrev pub Copied : List ℕ → List ℕ → Option ℕ → List ℕ → Type 0
Copied text before None after = (length before < length text) × (after ≡ before)
Copied text before (Some n) after = (n ≡ length text) × (n ≤ length before) × (after ≡ text ++ drop (length text) before)
