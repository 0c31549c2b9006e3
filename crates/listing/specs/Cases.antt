-- Lines of a listing that are known by hand.
use Rattle.std.specs.Prelude.{◌≡◌, true, false, Some, None, codes}
use Rattle.listing.specs.Lines.{line_text, verdict_text, refused_text}

pub record WorkedLines : Type 0 where
  pub all_bounds : line_text (codes "acq") (Some 1) (Some 4) (Some 4) 2 ≡ codes "acq 1 4 4 2 ok\n"
  pub no_safe_bound : line_text (codes "tx") (Some 5) (Some 7) None 4 ≡ codes "tx 5 7 - 4 late\n"
  pub no_bounds : line_text (codes "x") None None None 100000 ≡ codes "x - - - 100000 late\n"
  pub verdicts : (verdict_text true ≡ codes "accepted\n") × (verdict_text false ≡ codes "not accepted\n")
  pub refused_at_0 : refused_text 4 0 ≡ codes "refused 4 at 0\n"
  pub refused_at_1000 : refused_text 10 1000 ≡ codes "refused 10 at 1000\n"
