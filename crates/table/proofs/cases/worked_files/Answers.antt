-- The worked records and files, each as it computes.
use Rattle.std.proofs.Common.{[], ◌∷◌, refl, arith, lit<, lit≤}
use Rattle.std.proofs.lemmas.Bool.{false≢true}
use Rattle.model.specs.declared.refusal.Refusal.TheVariants.{WrongPlace}
use Rattle.model.specs.Tasks.{Sized, Timed}
use Rattle.table.specs.Names.{Short}
use Rattle.table.specs.Contents.{bare}
use Rattle.table.specs.Limits.{Allowed, LawfulNode, unnamed, outside, unpayable, misnamed}
use Rattle.table.specs.Loading.{full, refused, stop, second, more, empty, headless, begins}
use Rattle.table.specs.Cases.{acq_of, acq_name, acq_contents}
use Rattle.table.proofs.cases.worked_files.Goals as goal

pub returns : goal.returns
returns c =
    let node-limits : LawfulNode 10 0 100 = ((lit≤ tt, lit≤ tt), (lit≤ tt, lit≤ tt)) in
    let one_byte : Short (0x20 ∷ []) = (lit≤ tt, lit≤ tt) in
    let acq-size : Sized (acq_of 1 8 8 100) = (lit≤ tt, lit≤ tt) in
    let acq-time : Timed (acq_of 1 8 8 100) = (lit≤ tt, lit≤ tt, lit≤ tt) in
    let acq-allowed : Allowed (bare 10 0 100) (acq_of 1 8 8 40) acq_name =
    record { short = (lit≤ tt, lit≤ tt); few = lit< tt; sized = acq-size; timed = acq-time; payable = lit≤ tt; graphic = refl } in
    record {
      node_bytes = refl;
      acq_bytes = refl;
      large_bytes = refl;
      node_read = refl;
      acq_read = refl;
      end_read = refl;
      three_bytes = refl;
      length_3 = refl;
      length_65535 = refl;
      kind_9 = refl;
      kind_257 = refl;
      node_of_4 = refl;
      task_of_4 = refl;
      lowest_byte = refl;
      highest_byte = refl;
      space = refl;
      delete = refl;
      no_bytes = empty refl;
      no_node = headless (acq_of 1 8 8 40) acq_name 0 25 refl;
      two_nodes = begins 10 0 100 0 24 (refused WrongPlace 24) refl node-limits (second 24 (bare 10 0 100) 10 0 100 24 48 refl);
      one_task =
          begins 10 0 100 0 24 (full acq_contents) refl node-limits
          (more 24 (bare 10 0 100) (acq_of 1 8 8 40) acq_name 24 49 (full acq_contents) refl acq-allowed (stop 49 acq_contents refl));
      no_name = unnamed (λ short. omega (arith, short.0));
      no_units = outside one_byte (lit< tt) (λ both. omega (arith, both.0.0));
      late_deadline = outside one_byte (lit< tt) (λ both. omega (arith, both.1.1));
      draw_101 = unpayable one_byte (lit< tt) acq-size acq-time (lit< tt);
      space_name = misnamed one_byte (lit< tt) acq-size acq-time (lit≤ tt) (λ graphic. false≢true graphic);
    }
