-- Whole files: the bytes of lawful contents load as them, and a file that loads as a table is its bytes.
use Rattle.std.proofs.Common.{◌≡◌, ℕ, zero, suc, ◌+◌, ◌≤◌, ◌&&◌, leb, List, [], ◌∷◌, ◌++◌, length, get_or, drop, sym, refl, ap, ◌∙◌, subst, append_assoc, append-nil, arith, length-append, drop-drop, w8, Fits}
use lib.Seq.{drop-append_seam}
use Rattle.std.proofs.lemmas.List.{length_push}
use Rattle.std.proofs.lemmas.Bool.{and_parts, leb-true}
use Rattle.model.specs.declared.task.Task.{Task}
use Rattle.table.specs.Bytes.{Bytes}
use Rattle.table.specs.Contents.{Contents, bare, extended}
use Rattle.table.specs.Files.{rows_bytes, file_bytes, LawfulContents, no_tasks, one_more}
use Rattle.table.specs.Laws.{FileOfItsTable, NameForEachTask, TableOfItsFile}
use Rattle.table.specs.Layout.{node, task, entry_bytes, Written}
use Rattle.table.specs.Limits.{Allowed, LawfulNode}
use Rattle.table.specs.Loading.{Loaded, full, refused, Tasks, stop, broken, second, unfit, more, Loads, empty, faulty, headless, outside, begins}
use Rattle.table.specs.Names.{Graphic, graphic}
use Rattle.table.specs.Reading.{part_step, step_at, end, got}
use Rattle.table.proofs.Records.{reads_what_is_written, written_as_read, ended, drop_bytes}

-- What keeps the limits fits its places.
graphic_bytes : (name : List ℕ) → Graphic name → Bytes name
graphic_bytes [] g k h = absurd (omega arith)
graphic_bytes (b ∷ bs) g zero h =
    let both = and_parts (leb 0x21 b && leb b 0x7E) (graphic bs) g in
    let high = leb-true b 0x7E (and_parts (leb 0x21 b) (leb b 0x7E) both.0).1 in
    omega arith
graphic_bytes (b ∷ bs) g (suc k) h =
    graphic_bytes bs (and_parts (leb 0x21 b && leb b 0x7E) (graphic bs) g).1 k (omega arith)

written_node : (rate floor top : ℕ) → LawfulNode rate floor top → Written (node rate floor top)
written_node rate floor top l = (omega arith, omega arith, omega arith)

low_top : (c : Contents) → LawfulContents c → c.top ≤ 8000000000
low_top c (no_tasks rate floor top l) = l.1.1
low_top c (one_more d t name l a) = low_top d l

written_task : (c : Contents) (t : Task) (name : List ℕ) → LawfulContents c → Allowed c t name → Written (task t name)
written_task c t name l a =
    let top = low_top c l in
    (omega arith, omega arith, omega arith, omega arith, a.short.0, a.short.1, graphic_bytes name a.graphic)

-- There are as many names as tasks.
as_many : (c : Contents) → LawfulContents c → length c.tasks ≡ length c.names
as_many c (no_tasks rate floor top l) = refl
as_many c (one_more d t name l a) = length_push d.tasks t ∙ ap (λ n. n + 1) (as_many d l) ∙ sym (length_push d.names name)

rows_more : (ts : List Task) (ns : List (List ℕ)) (t : Task) (name : List ℕ) → length ts ≡ length ns →
    rows_bytes (ts ++ (t ∷ [])) (ns ++ (name ∷ [])) ≡ rows_bytes ts ns ++ entry_bytes (task t name)
rows_more [] [] t name h = append-nil (entry_bytes (task t name))
rows_more [] (n ∷ ns) t name h = absurd (omega arith)
rows_more (u ∷ ts) [] t name h = absurd (omega arith)
rows_more (u ∷ ts) (n ∷ ns) t name h =
    ap (λ x. entry_bytes (task u n) ++ x) (rows_more ts ns t name (omega arith))
    ∙ sym (append_assoc (entry_bytes (task u n)) (rows_bytes ts ns) (entry_bytes (task t name)))

file_more : (c : Contents) (t : Task) (name : List ℕ) → LawfulContents c →
    file_bytes (extended c t name) ≡ file_bytes c ++ entry_bytes (task t name)
file_more c t name l =
    ap (λ x. entry_bytes (node c.rate c.floor c.top) ++ x) (rows_more c.tasks c.names t name (as_many c l))
    ∙ sym (append_assoc (entry_bytes (node c.rate c.floor c.top)) (rows_bytes c.tasks c.names) (entry_bytes (task t name)))

-- After other bytes a written task is the step at its place.
task_follows : (before : List ℕ) (t : Task) (name : List ℕ) → Written (task t name) → (rest : List ℕ) →
    step_at (before ++ (entry_bytes (task t name) ++ rest)) (length before)
    ≡ got (task t name) (length before) (length before + length (entry_bytes (task t name)))
task_follows before t name w rest =
    ap (λ x. part_step x (length before)) (drop-append_seam before (entry_bytes (task t name) ++ rest))
    ∙ reads_what_is_written (task t name) w rest (length before)

-- After the bytes of lawful contents a load goes on with those contents.
loads_on : (c : Contents) → LawfulContents c → (rest : List ℕ) (res : Loaded) →
    Tasks (file_bytes c ++ rest) (length (file_bytes c)) c res → Loads (file_bytes c ++ rest) res
loads_on c (no_tasks rate floor top l) rest res go =
    begins rate floor top 0 24 res (reads_what_is_written (node rate floor top) (written_node rate floor top l) rest 0) l go
loads_on c (one_more d t name l a) rest res go =
    let before = file_bytes d in
    let own = entry_bytes (task t name) in
    let same = file_more d t name l in
    let one = ap (λ x. x ++ rest) same ∙ append_assoc before own rest in
    let place = ap length same ∙ length-append before own in
    let moved = subst (λ f. Tasks f (length (file_bytes c)) c res) one go in
    let on = subst (λ n. Tasks (before ++ (own ++ rest)) n c res) place moved in
    let s = task_follows before t name (written_task d t name l a) rest in
    subst (λ f. Loads f res) (sym one) (loads_on d l (own ++ rest) res (more _ _ _ _ _ _ res s a on))

pub table_of_its_file : TableOfItsFile
table_of_its_file c l =
    let e : step_at (file_bytes c ++ []) (length (file_bytes c)) ≡ end = ap (λ x. part_step x (length (file_bytes c))) (drop-append_seam (file_bytes c) []) in
    subst (λ f. Loads f (full c)) (append-nil (file_bytes c)) (loads_on c l [] (full c) (stop (length (file_bytes c)) c e))

-- What a file is once it is loaded.
abbrev Whole : List ℕ → Loaded → Type 0
Whole file (full c) = (file ≡ file_bytes c) × LawfulContents c
Whole file (refused r p) = Unit {0}

-- One record more belongs to what has been read.
row_joins : (file before own all : List ℕ) (at n to : ℕ) → file ≡ before ++ drop at file → drop at file ≡ own ++ drop n (drop at file) →
    to ≡ at + n → all ≡ before ++ own → file ≡ all ++ drop to file
row_joins file before own all at n to e f g h =
    e ∙ ap (λ x. before ++ x) f ∙ sym (append_assoc before own (drop n (drop at file)))
    ∙ ap (λ x. before ++ own ++ x) (drop-drop n at file ∙ ap (λ m. drop m file) (sym g))
    ∙ ap (λ x. x ++ drop to file) (sym h)

rows_read : (file : List ℕ) → Bytes file → (at : ℕ) (c : Contents) (res : Loaded) → LawfulContents c → file ≡ file_bytes c ++ drop at file →
    Tasks file at c res → Whole file res
rows_read file bytes at c res l e (stop _ _ s) =
    (e ∙ ap (λ x. file_bytes c ++ x) (ended (drop at file) at (drop_bytes at file bytes) s) ∙ append-nil (file_bytes c), l)
rows_read file bytes at c res l e (broken _ _ r p s) = tt
rows_read file bytes at c res l e (second _ _ rate floor top p to s) = tt
rows_read file bytes at c res l e (unfit _ _ t name p to r s w) = tt
rows_read file bytes at c res l e (more _ _ t name p to _ s a go) =
    let own = entry_bytes (task t name) in
    let r = written_as_read (drop at file) at (task t name) p to (drop_bytes at file bytes) s in
    let on = row_joins file (file_bytes c) own (file_bytes (extended c t name)) at (length own) to e r.front r.after (file_more c t name l) in
    rows_read file bytes to (extended c t name) res (one_more c t name l a) on go

file_read : (file : List ℕ) → Bytes file → (res : Loaded) → Loads file res → Whole file res
file_read file bytes res (empty s) = tt
file_read file bytes res (faulty r p s) = tt
file_read file bytes res (headless t name p to s) = tt
file_read file bytes res (outside rate floor top p to s n) = tt
file_read file bytes res (begins rate floor top p to _ s l go) =
    let r = written_as_read file 0 (node rate floor top) p to bytes s in
    let on = r.front ∙ ap (λ n. entry_bytes (node rate floor top) ++ drop n file) (sym r.after) in
    rows_read file bytes to (bare rate floor top) res (no_tasks rate floor top l) on go

pub file_of_its_table : FileOfItsTable
file_of_its_table file c bytes go = file_read file bytes (full c) go

pub name_for_each_task : NameForEachTask
name_for_each_task file c bytes go = as_many c (file_of_its_table file c bytes go).1

-- What a caller lends as bytes is bytes.
pub lent_bytes : (file : List ℕ) → ((i : ℕ) → Fits w8 (get_or file i 0)) → Bytes file
lent_bytes file fit k h = (fit k).fits
