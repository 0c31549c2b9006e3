use Rattle.std.proofs.Common.{◌≡◌, ℕ, List, [], ◌++◌, map, All, sym, subst, ◌∙◌, ◌⊎◌, inl, inr, append-nil, append_assoc, arith, rules}
use Rattle.std.specs.Iterator.Adapters.{zip_first, zip_second}
use Rattle.std.specs.Slice.Iter.{iter_rest}
use Rattle.std.proofs.lemmas.List.Elements.{All-tail}
use Rattle.std.proofs.lemmas.Slice.Zip.{either_empty_from_Zip}
use Rattle.table.specs.declared.name.Name.{Name}
use Rattle.table.specs.Names.{name_bytes, Short}
use Rattle.table.proofs.Setups.{tasks_lawful}
use Rattle.analysis.specs.declared.verdict.TaskBounds.{TaskBounds}
use Rattle.analysis.specs.Verdicts.{bounds_list}
use Rattle.listing.specs.Listings.{task_line, lines_text, IsSmall}
use Rattle.listing.proofs.Rows.{all_small, lines_none}
use Rattle.listing.proofs.text.Text.put_lines.Goals as goal

pub loop-name-init : goal.loop-name-init
loop-name-init c =
    let lawful = tasks_lawful c.args.table.now in
    let names : iter_rest (zip_first c.into_iter-name-iterator.result) ≡ c.names.result.now = search rules in
    let bounds : iter_rest (zip_second c.into_iter-name-iterator.result) ≡ bounds_list c.args.verdict.now = search rules in
    record {
      text = search rules;
      len = rw (names, c.requires.empty) (omega (arith, lawful.few, c.names.ensures.len));
      short = search rules;
      small = subst (All IsSmall) (sym bounds) (all_small _ _ _ _ lawful c.requires.bounds.bounds);
    }

pub put_line-requires-clause-small : goal.put_line-requires-clause-small
put_line-requires-clause-small c = subst (All IsSmall) c.in-Some.ensures.steps.1 c.loop-name.invariant.small 0 c.in-Some.bounds.now (omega arith)

line_more : (before after line rest whole : List ℕ) → after ≡ before ++ line → before ++ (line ++ rest) ≡ whole → after ++ rest ≡ whole
line_more before after line rest whole put left = rw (put, append_assoc) left

pub loop-name-preserved : goal.loop-name-preserved
loop-name-preserved c =
    let names = c.in-Some.ensures.steps.0 in
    let bounds = c.in-Some.ensures.steps.1 in
    let before = c.loop-name.invariant in
    let put = subst (λ name. c.put_line.new.self ≡ c.loop-name.self ++ task_line name c.in-Some.bounds.now) c.as_bytes.ensures c.put_line.ensures.text in
    record {
      text = line_more c.loop-name.self _ _ _ _ put (rw (names, bounds) at before.text);
      len = omega (arith, simp names at before.len);
      short = All-tail (λ n. Short (name_bytes n)) c.in-Some.name.now _ (subst (All (λ n. Short (name_bytes n))) names before.short);
      small = All-tail IsSmall _ _ (subst (All IsSmall) bounds before.small);
    }

none_left : (text whole : List ℕ) (names : List Name) (bs : List TaskBounds) → (names ≡ []) ⊎ (bs ≡ [])
    → text ++ lines_text (map name_bytes names) bs ≡ whole → text ≡ whole
none_left text whole names bs (inl e) h = sym (append-nil text) ∙ (rw e at h)
none_left text whole names bs (inr e) h = sym (append-nil text) ∙ (rw (e, lines_none) at h)

pub returns-clause-text : goal.returns-clause-text
returns-clause-text c =
    let end = either_empty_from_Zip c.loop-name.name-iterator c.next.new.self c.next.result c.in-None.is c.next.ensures.steps in
    none_left c.loop-name.self _ _ _ end c.loop-name.invariant.text
