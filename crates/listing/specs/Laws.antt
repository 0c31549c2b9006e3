-- A file has one text only, and so the output of the listing call is no other than that text.
--   OneListing   two listings of a file have the same text and the same verdict
--   OnlyText     every listing of a file is the one that the call answers
use Rattle.std.specs.Prelude.{◌≡◌, ℕ, ◌<◌, Bool, List, ◌++◌, length, drop, Ok, Err, Result}
use Rattle.model.specs.declared.refusal.Refusal.{Refusal}
use Rattle.listing.specs.declared.list.Listed.{Listed}
use Rattle.listing.specs.Listings.{Listing}

abbrev pub OneListing : Type 0
OneListing = (file a b : List ℕ) (x y : Bool) → Listing file a x → Listing file b y → (a ≡ b) × (x ≡ y)

-- any listing of the file is what the output begins with, of the length and with the verdict that were answered; or it does not fit
abbrev pub OnlyText : List ℕ → List ℕ → Result Listed Refusal → List ℕ → Type 0
OnlyText file before (Ok l) after = (text : List ℕ) (accepted : Bool) → Listing file text accepted →
    (after ≡ text ++ drop (length text) before) × (l.length ≡ length text) × (l.accepted ≡ accepted)
OnlyText file before (Err e) after = (text : List ℕ) (accepted : Bool) → Listing file text accepted → length before < length text
