-- A written record is read as itself, and a record that is read is the written one.
use Rattle.std.proofs.Common.{◌≡◌, ℕ, ◌+◌, ◌-◌, ◌<◌, ◌≤◌, eqb, ltb, List, [], ◌++◌, length, take, drop, sym, refl, ap, ◌∙◌, subst, arith, length-append, length-drop, take-append-drop, length-take, get_or-drop, take_all, get_or-take, drop-drop, take_at}
use Rattle.std.proofs.lemmas.List.{nil_from_length}
use Rattle.std.proofs.lemmas.Bool.{cond_both, ltb-false, eqb-true, le-ltb}
use Rattle.model.specs.declared.task.Task.{Task}
use Rattle.table.specs.Bytes.{le2, le4, le8, le_bytes, Bytes}
use Rattle.table.specs.Layout.{Entry, node, task, entry_bytes, Written}
use Rattle.table.specs.Laws.{ReadsWhatIsWritten, WrittenAsRead, Stands}
use Rattle.table.specs.Reading.{Step, end, got, bad, node_of, task_of, body_step, part_step}
use Rattle.table.proofs.Steps.{part_is_body}
use Rattle.table.proofs.Numbers.{le2_read_back, le4_read_back, le8_read_back, le2_written, le4_written, le8_written, le2_fits, le4_fits, le8_fits}

-- Records of tasks with equal numbers are equal.
task_alike : (units period deadline draw u p d w : ℕ) (name : List ℕ) → units ≡ u → period ≡ p → deadline ≡ d → draw ≡ w →
    task (record { units = units; period = period; deadline = deadline; draw = draw }) name
    ≡ task (record { units = u; period = p; deadline = d; draw = w }) name
task_alike units period deadline draw u p d w name q r s e = cc

-- The body of a task's record.
abbrev task_body : Task → List ℕ → List ℕ
task_body t name =
    le_bytes 2 t.units ++ (le_bytes 4 t.period ++ (le_bytes 4 t.deadline ++ (le_bytes 8 t.draw ++ name)))

reads_node : (rate floor top : ℕ) → Written (node rate floor top) → (rest : List ℕ) (at : ℕ) →
    part_step (entry_bytes (node rate floor top) ++ rest) at ≡ got (node rate floor top) at (at + 24)
reads_node rate floor top w rest at =
    let low = le4_read_back rate [] w.0 in
    let mid = le8_read_back floor [] w.1 in
    let high = le8_read_back top [] w.2 in
    part_is_body (entry_bytes (node rate floor top) ++ rest) at (omega arith) (omega arith) (omega arith) ∙ cc

-- A body of kind 2 and a lawful length is a task's.
task_step : (body : List ℕ) (at to : ℕ) → 19 ≤ length body → length body ≤ 30 → body_step 2 body at to ≡ got (task_of body) at to
task_step body at to h k =
    let long = le-ltb (length body) 19 h in
    let short = le-ltb 30 (length body) k in
    rw (long, short)

reads_task : (t : Task) (name : List ℕ) → Written (task t name) → (rest : List ℕ) (at : ℕ) →
    part_step (entry_bytes (task t name) ++ rest) at ≡ got (task t name) at (at + length (entry_bytes (task t name)))
reads_task t name w rest at =
    let all = entry_bytes (task t name) ++ rest in
    let body = task_body t name in
    let long : length body ≡ 18 + length name = omega arith in
    let size : le2 all 0 ≡ 22 + length name = le2_read_back (22 + length name) [] (omega arith) in
    let units = le2_read_back t.units [] w.0 in
    let period = le4_read_back t.period [] w.1 in
    let deadline = le4_read_back t.deadline [] w.2 in
    let draw = le8_read_back t.draw [] w.3 in
    let more = length-append name rest in
    part_is_body all at (omega arith) (omega arith) (omega arith)
    ∙ ap (λ m. body_step 2 (take (m - 4) (drop 4 all)) at (at + m)) size
    ∙ ap (λ b. body_step 2 b at (at + (22 + length name))) (take_at body rest (22 + length name - 4) (omega arith))
    ∙ task_step body at (at + (22 + length name)) (omega arith) (omega arith)
    ∙ ap (λ e. got e at (at + (22 + length name))) (task_alike _ _ _ _ t.units t.period t.deadline t.draw name units period deadline draw)
    ∙ ap (λ m. got (task t name) at (at + m)) (omega arith)

pub reads_what_is_written : ReadsWhatIsWritten
reads_what_is_written (node rate floor top) w rest at = reads_node rate floor top w rest at
reads_what_is_written (task t name) w rest at = reads_task t name w rest at

-- Parts of a list of bytes are bytes.
pub drop_bytes : (n : ℕ) (b : List ℕ) → Bytes b → Bytes (drop n b)
drop_bytes n b bytes k h =
    let long = length-drop n b in
    rw (get_or-drop n b k 0) (bytes (n + k) (omega arith))

take_bytes : (n : ℕ) (b : List ℕ) → Bytes b → Bytes (take n b)
take_bytes n b bytes k h =
    let long = length-take n b in
    let within : k < n = omega arith in
    rw (get_or-take n b k 0 within) (bytes k (omega arith))

-- A part and what follows it.
part_and_rest : (j n : ℕ) (b : List ℕ) → take n (drop j b) ++ drop (j + n) b ≡ drop j b
part_and_rest j n b = ap (λ x. take n (drop j b) ++ x) (sym (drop-drop n j b)) ∙ take-append-drop n (drop j b)

-- A field that is read, followed by what is left of the body, is the body from that place on.
field_joins : (field b : List ℕ) (j n : ℕ) (rest : List ℕ) → field ≡ take n (drop j b) → rest ≡ drop (j + n) b → field ++ rest ≡ drop j b
field_joins field b j n rest p q = rw (p, q) (part_and_rest j n b)

node_fields : (b : List ℕ) → Bytes b → length b ≡ 20 →
    le_bytes 4 (le4 b 0) ++ (le_bytes 8 (le8 b 4) ++ le_bytes 8 (le8 b 12)) ≡ b
node_fields b bytes h =
    let long = length-drop 12 b in
    field_joins (le_bytes 4 (le4 b 0)) b 0 4 _ (le4_written b 0 bytes (omega arith))
    (field_joins (le_bytes 8 (le8 b 4)) b 4 8 _ (le8_written b 4 bytes (omega arith))
    (le8_written b 12 bytes (omega arith) ∙ take_all 8 (drop 12 b) (omega arith)))

task_fields : (b : List ℕ) → Bytes b → 18 ≤ length b →
    le_bytes 2 (le2 b 0) ++ (le_bytes 4 (le4 b 2) ++ (le_bytes 4 (le4 b 6) ++ (le_bytes 8 (le8 b 10) ++ drop 18 b))) ≡ b
task_fields b bytes h =
    field_joins (le_bytes 2 (le2 b 0)) b 0 2 _ (le2_written b 0 bytes (omega arith))
    (field_joins (le_bytes 4 (le4 b 2)) b 2 4 _ (le4_written b 2 bytes (omega arith))
    (field_joins (le_bytes 4 (le4 b 6)) b 6 4 _ (le4_written b 6 bytes (omega arith))
    (field_joins (le_bytes 8 (le8 b 10)) b 10 8 _ (le8_written b 10 bytes (omega arith)) refl)))

-- A length, a kind and a body that are read at the front of bytes, written one after the other, are that front.
front_joins : (b : List ℕ) → Bytes b → 4 ≤ length b → (size kind : ℕ) → le2 b 0 ≡ size → le2 b 2 ≡ kind → 4 ≤ size →
    (body : List ℕ) → body ≡ take (size - 4) (drop 4 b) → b ≡ (le_bytes 2 size ++ (le_bytes 2 kind ++ body)) ++ drop size b
front_joins b bytes four size kind sized kinded long body e =
    let whole : size ≡ 4 + (size - 4) = omega arith in
    let first = ap (le_bytes 2) (sym sized) ∙ le2_written b 0 bytes (omega arith) in
    let next = ap (le_bytes 2) (sym kinded) ∙ le2_written b 2 bytes (omega arith) in
    let last = ap (λ n. drop n b) whole in
    sym (field_joins (le_bytes 2 size) b 0 2 (le_bytes 2 kind ++ (body ++ drop size b)) first
    (field_joins (le_bytes 2 kind) b 2 2 (body ++ drop size b) next
    (field_joins body b 4 (size - 4) (drop size b) e last)))

-- So an entry whose bytes these are stands there.
stands : (b : List ℕ) → Bytes b → (at : ℕ) (e : Entry) (size kind : ℕ) (body : List ℕ) → 4 ≤ length b → 4 ≤ size → le2 b 0 ≡ size → le2 b 2 ≡ kind →
    body ≡ take (le2 b 0 - 4) (drop 4 b) → entry_bytes e ≡ le_bytes 2 size ++ (le_bytes 2 kind ++ body) → length (entry_bytes e) ≡ size → Written e →
    Stands b at e at (at + le2 b 0)
stands b bytes at e size kind body four long sized kinded cut made count w =
    let own = cut ∙ ap (λ n. take (n - 4) (drop 4 b)) sized in
    let whole = front_joins b bytes four size kind sized kinded long body own in
    record {
      written = w;
      place = refl;
      after = ap (λ n. at + n) (sized ∙ sym count);
      front = rw (count, made) whole;
    }

-- What a step says of the bytes in front of it.
abbrev AsRead : List ℕ → ℕ → Step → Type 0
AsRead left at end = left ≡ []
AsRead left at (bad r p) = Unit {0}
AsRead left at (got e p to) = Stands left at e p to

-- The body that a record's length cuts off.
abbrev cut : List ℕ → List ℕ
cut b = take (le2 b 0 - 4) (drop 4 b)

module _ (b : List ℕ) (at : ℕ) (bytes : Bytes b) (four : 4 ≤ length b) (long : 4 ≤ le2 b 0) (within : le2 b 0 ≤ length b) where
  cut_bytes : Bytes (cut b)
  cut_bytes = take_bytes (le2 b 0 - 4) (drop 4 b) (drop_bytes 4 b bytes)

  cut_length : length (cut b) ≡ le2 b 0 - 4
  cut_length = simp (length-take, length-drop) (omega arith)

  node_stands : le2 b 2 ≡ 1 → length (cut b) ≡ 20 → Stands b at (node_of (cut b)) at (at + le2 b 0)
  node_stands kinded h =
      let c = cut_length in
      stands b bytes at (node_of (cut b)) 24 1 (cut b) four (omega arith) (omega arith) kinded refl
      (ap (λ x. le_bytes 2 24 ++ (le_bytes 2 1 ++ x)) (node_fields (cut b) cut_bytes h)) refl
      (le4_fits (cut b) 0 cut_bytes (omega arith), le8_fits (cut b) 4 cut_bytes (omega arith), le8_fits (cut b) 12 cut_bytes (omega arith))

  task_stands : le2 b 2 ≡ 2 → 19 ≤ length (cut b) → length (cut b) ≤ 30 → Stands b at (task_of (cut b)) at (at + le2 b 0)
  task_stands kinded h k =
      let c = cut_length in
      let n = length-drop 18 (cut b) in
      let name = drop 18 (cut b) in
      stands b bytes at (task_of (cut b)) (22 + length name) 2 (cut b) four (omega arith) (omega arith) kinded refl
      (ap (λ x. le_bytes 2 (22 + length name) ++ (le_bytes 2 2 ++ x)) (task_fields (cut b) cut_bytes (omega arith))) (omega arith) (
        le2_fits (cut b) 0 cut_bytes (omega arith),
        le4_fits (cut b) 2 cut_bytes (omega arith),
        le4_fits (cut b) 6 cut_bytes (omega arith),
        le8_fits (cut b) 10 cut_bytes (omega arith),
        omega arith,
        omega arith,
        drop_bytes 18 (cut b) cut_bytes,
      )

  body_as_read : AsRead b at (body_step (le2 b 2) (cut b) at (at + le2 b 0))
  body_as_read =
      cond_both (eqb (le2 b 2) 1) _ _ (AsRead b at)
      (λ one. cond_both (eqb (length (cut b)) 20) _ _ (AsRead b at)
      (λ q. node_stands (eqb-true (le2 b 2) 1 one) (eqb-true (length (cut b)) 20 q)) (λ _. tt))
      (λ _. cond_both (eqb (le2 b 2) 2) _ _ (AsRead b at)
      (λ two. cond_both (ltb (length (cut b)) 19) _ _ (AsRead b at) (λ _. tt)
      (λ lo. cond_both (ltb 30 (length (cut b))) _ _ (AsRead b at) (λ _. tt)
      (λ hi. task_stands (eqb-true (le2 b 2) 2 two) (ltb-false (length (cut b)) 19 lo) (ltb-false 30 (length (cut b)) hi))))
      (λ _. tt))

as_read : (left : List ℕ) (at : ℕ) → Bytes left → AsRead left at (part_step left at)
as_read left at bytes =
    cond_both (eqb (length left) 0) _ _ (AsRead left at) (λ n. nil_from_length left (eqb-true (length left) 0 n)) (λ _.
    cond_both (ltb (length left) 4) _ _ (AsRead left at) (λ _. tt) (λ h.
    cond_both (ltb (le2 left 0) 4) _ _ (AsRead left at) (λ _. tt) (λ k.
    cond_both (ltb (length left) (le2 left 0)) _ _ (AsRead left at) (λ _. tt) (λ m.
    body_as_read left at bytes (ltb-false (length left) 4 h) (ltb-false (le2 left 0) 4 k) (ltb-false (length left) (le2 left 0) m)))))

pub written_as_read : WrittenAsRead
written_as_read left at e p to bytes h = subst (AsRead left at) h (as_read left at bytes)

pub ended : (left : List ℕ) (at : ℕ) → Bytes left → part_step left at ≡ end → left ≡ []
ended left at bytes h = subst (AsRead left at) h (as_read left at bytes)
