-- The laws of the search for a bound: what its rounds find, how many there are, and what a bound says of a table.
use Rattle.std.proofs.Common.{◌≡◌, ℕ, zero, suc, ◌+◌, ◌<◌, ◌≤◌, ◌⊎◌, List, is_some, Some, None, Decides, Option, refl, ap, inl, inr, ⊎_elim, arith}
use Rattle.std.proofs.lemmas.Bool.{cases_lt, false≢true}
use Rattle.model.specs.declared.task.Task.{Task}
use Rattle.model.specs.Demand.{safe_curve}
use Rattle.model.specs.Windows.{Rising, LeastWindow, Rounds, found, above, again, Fits}
use Rattle.model.specs.Laws.{window_limit, SafeBound, SearchFindsLeast, SearchEnds, FewRounds, OneSearch, OneBound, AcceptedExactly, RefusedExactly}

-- the curve exceeds every window from 1 up to a window
abbrev pub ExceededBelow : (ℕ → ℕ) → ℕ → Type 0
ExceededBelow curve w = (v : ℕ) → 1 ≤ v → v < w → v < curve v

-- What lies below a window is exceeded: then so is what lies below the curve's value there.
pub exceeded_up_to_value : (curve : ℕ → ℕ) (w : ℕ) → Rising curve → ExceededBelow curve w → ExceededBelow curve (curve w)
exceeded_up_to_value curve w rises below v a b = ⊎_elim (λ l. below v a l) (λ k. omega (arith, rises w v k)) (cases_lt v w)

pub rounds_find_from :
    (curve : ℕ → ℕ) (deadline : ℕ) {w n : ℕ} {r : Option ℕ} →
    Rising curve → 1 ≤ w → w ≤ deadline → ExceededBelow curve w → Rounds curve deadline w r n → LeastWindow curve deadline r
rounds_find_from curve deadline rises a b below (found w le) = (a, b, le, below)
rounds_find_from curve deadline rises a b below (above w lt past) =
    λ v h k. exceeded_up_to_value curve w rises below v h (omega arith)
rounds_find_from curve deadline rises a b below (again w r m lt le rest) =
    rounds_find_from curve deadline rises (omega arith) le (exceeded_up_to_value curve w rises below) rest

pub rounds_find : SearchFindsLeast
rounds_find curve deadline bound rounds rises a search =
    rounds_find_from curve deadline rises (omega arith) a (λ v h k. absurd (omega arith)) search

-- each round's window is larger than the one before
pub few_rounds_from : (curve : ℕ → ℕ) (deadline : ℕ) {w n : ℕ} {r : Option ℕ} → w ≤ deadline → Rounds curve deadline w r n → n + w ≤ deadline + 1
few_rounds_from curve deadline a (found w le) = omega arith
few_rounds_from curve deadline a (above w lt past) = omega arith
few_rounds_from curve deadline a (again w r m lt le rest) = omega (arith, few_rounds_from curve deadline le rest)

pub few_rounds : FewRounds
few_rounds curve deadline bound rounds a search = omega (arith, few_rounds_from curve deadline a search)

-- a search from a window ends
abbrev Ends : (ℕ → ℕ) → ℕ → ℕ → Type 0
Ends curve deadline w = (r : Option ℕ) × (n : ℕ) × Rounds curve deadline w r n

one_round_more : (curve : ℕ → ℕ) (deadline w : ℕ) → w < curve w → curve w ≤ deadline → Ends curve deadline (curve w) → Ends curve deadline w
one_round_more curve deadline w lt le rest = (rest.0, rest.1 + 1, again w rest.0 rest.1 lt le rest.2)

ends_where_next_does :
    (curve : ℕ → ℕ) (deadline w : ℕ) → (w < curve w → curve w ≤ deadline → Ends curve deadline (curve w)) → Ends curve deadline w
ends_where_next_does curve deadline w next = ⊎_elim larger (λ le. (Some w, 1, found w le)) (cases_lt w (curve w))
  where
    larger : w < curve w → Ends curve deadline w
    larger lt = ⊎_elim (λ past. (None, 1, above w lt past)) (λ le. one_round_more curve deadline w lt le (next lt le)) (cases_lt deadline (curve w))

-- at most as many windows are left as there are slots up to the deadline
search_ends_from : (curve : ℕ → ℕ) (deadline left w : ℕ) → deadline ≤ w + left → Ends curve deadline w
search_ends_from curve deadline zero w h = ends_where_next_does curve deadline w (λ lt le. absurd (omega arith))
search_ends_from curve deadline (suc left) w h =
    ends_where_next_does curve deadline w (λ lt le. search_ends_from curve deadline left (curve w) (omega arith))

pub search_ends : SearchEnds
search_ends curve deadline = search_ends_from curve deadline deadline 1 (omega arith)

-- two searches from one window stop together and go on together
pub rounds_agree :
    (curve : ℕ → ℕ) (deadline : ℕ) {w m n : ℕ} {a b : Option ℕ} →
    Rounds curve deadline w a m → Rounds curve deadline w b n → (a ≡ b) × (m ≡ n)
rounds_agree curve deadline (found w le) (found w' le') = (refl, refl)
rounds_agree curve deadline (found w le) (above w' lt past) = absurd (omega arith)
rounds_agree curve deadline (found w le) (again w' r k lt le' rest) = absurd (omega arith)
rounds_agree curve deadline (above w lt past) (found w' le) = absurd (omega arith)
rounds_agree curve deadline (above w lt past) (above w' lt' past') = (refl, refl)
rounds_agree curve deadline (above w lt past) (again w' r k lt' le rest) = absurd (omega arith)
rounds_agree curve deadline (again w r k lt le rest) (found w' le') = absurd (omega arith)
rounds_agree curve deadline (again w r k lt le rest) (above w' lt' past) = absurd (omega arith)
rounds_agree curve deadline (again w r k lt le rest) (again w' r' k' lt' le' rest') =
    let more = rounds_agree curve deadline rest rest' in (more.0, ap (λ x. x + 1) more.1)

pub rounds_are_one : OneSearch
rounds_are_one curve deadline window a b m n p q = rounds_agree curve deadline p q

-- of two least windows neither is below the other
pub least_is_one : OneBound
least_is_one curve deadline (Some v) (Some w) p q = ap Some (⊎_elim
    (λ l. absurd (omega (arith, q.3 v p.0 l)))
    (λ k. ⊎_elim (λ l. absurd (omega (arith, p.3 w q.0 l))) (λ j. omega arith) (cases_lt w v))
    (cases_lt v w))
least_is_one curve deadline (Some v) None p q = absurd (omega (arith, q v p.0 p.1))
least_is_one curve deadline None (Some w) p q = absurd (omega (arith, p w q.0 q.1))
least_is_one curve deadline None None p q = refl

exceeded_one_more : (curve : ℕ → ℕ) (k : ℕ) → ExceededBelow curve k → (1 ≤ k → k < curve k) → ExceededBelow curve (suc k)
exceeded_one_more curve k below here v a b =
    ⊎_elim (λ l. below v a l) (λ j. let e : v ≡ k = omega arith in rw e (here (omega arith))) (cases_lt v k)

-- a window below a limit that is the least of those that the curve does not exceed
abbrev pub LeastBelow : (ℕ → ℕ) → ℕ → Type 0
LeastBelow curve limit = (w : ℕ) × (1 ≤ w) × (w < limit) × (curve w ≤ w) × ExceededBelow curve w

-- below a limit, either every window is exceeded or there is a least one that is not
pub least_below : (curve : ℕ → ℕ) (limit : ℕ) → ExceededBelow curve limit ⊎ LeastBelow curve limit
least_below curve zero = inl (λ v a b. absurd (omega arith))
least_below curve (suc k) = ⊎_elim at_k (λ f. inr (f.0, f.1, omega arith, f.3, f.4)) (least_below curve k)
  where
    holds : ExceededBelow curve k → curve k ≤ k → ExceededBelow curve (suc k) ⊎ LeastBelow curve (suc k)
    holds below le =
        ⊎_elim (λ z. inl (exceeded_one_more curve k below (λ a. absurd (omega arith)))) (λ a. inr (k, a, omega arith, le, below)) (cases_lt k 1)

    at_k : ExceededBelow curve k → ExceededBelow curve (suc k) ⊎ LeastBelow curve (suc k)
    at_k below = ⊎_elim (λ lt. inl (exceeded_one_more curve k below (λ _. lt))) (λ le. holds below le) (cases_lt k (curve k))

-- a window that fits has a least one below it
pub fitting_has_least :
    (curve : ℕ → ℕ) (deadline w : ℕ) → 1 ≤ w → w ≤ deadline → curve w ≤ w → (least : ℕ) × LeastWindow curve deadline (Some least)
fitting_has_least curve deadline w a b le = ⊎_elim
    (λ below. (w, (a, b, le, below)))
    (λ f. (f.0, (f.1, omega arith, f.3, f.4)))
    (least_below curve w)

module _ (gain : ℕ) (ts : List Task) (index : ℕ) where
  pub present_fits : (w : ℕ) → SafeBound gain ts index (Some w) → Fits gain ts index w
  present_fits w b = (b.0, b.1, b.2)

  pub absent_fits_none : SafeBound gain ts index None → (w : ℕ) → Fits gain ts index w → ⊥
  absent_fits_none b w f = omega (arith, b w f.0 f.1, f.2)

  pub fits_none_absent : ((w : ℕ) → Fits gain ts index w → ⊥) → SafeBound gain ts index None
  fits_none_absent no_window v a b = ⊎_elim (λ l. l) (λ le. absurd (no_window v (a, b, le))) (cases_lt v (safe_curve gain ts index v))

  pub fits_has_least : (w : ℕ) → Fits gain ts index w → (least : ℕ) × SafeBound gain ts index (Some least)
  fits_has_least w f = fitting_has_least (safe_curve gain ts index) (window_limit ts index) w f.0 f.1 f.2

  -- a bound that was worked out decides whether a window fits by being present
  pub presence_decides : (bound : Option ℕ) → SafeBound gain ts index bound → Decides (is_some bound) ((w : ℕ) × Fits gain ts index w)
  presence_decides (Some w) b = (λ _. (w, present_fits w b), λ _. refl)
  presence_decides None b = (λ e. absurd (false≢true e), λ f. absurd (absent_fits_none b f.0 f.1))

pub accepted_exactly : AcceptedExactly
accepted_exactly gain ts = (
  (λ present index h. let b = present index h in (b.0, present_fits gain ts index b.0 b.1)),
  (λ accepted index h. let f = accepted index h in fits_has_least gain ts index f.0 f.1),
)

pub refused_exactly : RefusedExactly
refused_exactly gain ts index = (absent_fits_none gain ts index, fits_none_absent gain ts index)
