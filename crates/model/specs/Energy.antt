-- The energy of a node: what a harvester may bring, and what the store keeps.
--   Harvest        an amount that a harvester of a promise may bring
--   LawfulLevel   a level that a store may have
--   put_level      the level after a slot
--   scaled         what a converter lets through
use Rattle.std.specs.Prelude.{ℕ, ◌+◌, ◌-◌, ◌*◌, ◌/◌, ◌≤◌, min}
use Rattle.model.specs.Setups.{Setup}

-- a harvester brings no less than it promises, and never more than the ceiling
abbrev pub Harvest : ℕ → ℕ → Type 0
Harvest promise amount = (promise ≤ amount) × (amount ≤ 1000000000)

abbrev pub LawfulLevel : Setup → ℕ → Type 0
LawfulLevel n level = (n.floor ≤ level) × (level ≤ n.top)

-- what comes in and what is drawn, cut at the cap
abbrev pub put_level : Setup → ℕ → ℕ → ℕ → ℕ
put_level n level harvest draw = min n.top (level + harvest - draw)

-- the part of an amount that a converter lets through; its factor counts 256ths
abbrev pub scaled : ℕ → ℕ → ℕ
scaled amount factor = amount * factor / 256
