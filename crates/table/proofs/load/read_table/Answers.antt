use Rattle.std.proofs.Common.{◌≡◌, sym, ◌∙◌, rules}
use Rattle.std.proofs.lemmas.Result.{err_from_is_err_and}
use Rattle.table.specs.declared.read.Record.TheVariants.{Node}
use Rattle.table.specs.Loading.{empty, faulty, outside, begins}
use Rattle.table.proofs.Walks.{end_seen, record_seen, at_front, headless_seen, tasks_of, mapped_ok, mapped_err}
use Rattle.table.proofs.load.read_table.Goals as goal

pub returns-in_err-rate : goal.returns-in_err-rate
returns-in_err-rate c =
    let p = err_from_is_err_and c.from_residual.result c.from_residual.ensures.1 in
    let said = at_front c.in_err-rate.ensures.said c.new-reader.ensures.file c.new-reader.ensures.place in
    rw (p.1, p.2) (faulty _ _ (sym said))

pub returns-in_default : goal.returns-in_default
returns-in_default c =
    let said = at_front c.in_ok-rate.ensures.said c.new-reader.ensures.file c.new-reader.ensures.place in
    search (rules, headless_seen)

pub returns-in_default-2 : goal.returns-in_default-2
returns-in_default-2 c =
    let said = at_front c.in_ok-rate.ensures.said c.new-reader.ensures.file c.new-reader.ensures.place in
    search (rules, end_seen, empty)

pub returns-in_err-start : goal.returns-in_err-start
returns-in_err-start c =
    let p = err_from_is_err_and c.from_residual-in_err-start.result c.from_residual-in_err-start.ensures.1 in
    let m = mapped_err _ c.new.result c.in_err-start.field-0.0 c.map_err.ensures.cases c.in_err-start.was in
    let told : c.in_err-start.field-0.0 ≡ record { refusal = m.0; at = 0 } = search rules in
    let law = rw m.1 at c.new.ensures in
    let said = at_front c.in_ok-rate.ensures.said c.new-reader.ensures.file c.new-reader.ensures.place in
    let node : c.in-Some-Node.field-0.«record» ≡ Node c.in-Some-Node.rate c.in-Some-Node.floor c.in-Some-Node.cap = search rules in
    rw (p.1, p.2, told, law.1) (outside _ _ _ _ _ (record_seen c.args.file.now 0 _ said c.in-Some-Node.is node) law.0)

pub returns : goal.returns
returns c =
    let m = mapped_ok _ c.new.result c.in_ok-start.start c.map_err.ensures.cases c.in_ok-start.was in
    let told = rw m at c.new.ensures in
    let said = at_front c.in_ok-rate.ensures.said c.new-reader.ensures.file c.new-reader.ensures.place in
    let node : c.in-Some-Node.field-0.«record» ≡ Node c.in-Some-Node.rate c.in-Some-Node.floor c.in-Some-Node.cap = search rules in
    begins _ _ _ _ _ _ (record_seen c.args.file.now 0 _ said c.in-Some-Node.is node) told.0
    (tasks_of (c.next.ensures.file ∙ c.new-reader.ensures.file) told.1 c.load_tasks.ensures)
