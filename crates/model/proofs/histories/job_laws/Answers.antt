-- The laws of the jobs.
use Rattle.model.proofs.HistoryLaws.{open_in_time, one_open_job, released_is_closed_and_open, finished_are_closed}
use Rattle.model.proofs.histories.job_laws.Goals as goal

pub returns : goal.returns
returns c = record { timed = open_in_time; single = one_open_job; counted = released_is_closed_and_open; finished = finished_are_closed }
