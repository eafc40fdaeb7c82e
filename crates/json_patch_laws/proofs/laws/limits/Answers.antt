use Rattle.json_patch_laws.proofs.MergeDepths.{merged_depth}
use Rattle.json_patch_laws.proofs.LimitedRuns.{inverse_size as size_of_inverse, over_ends, run_depth as depth_of_run, run_size as size_of_run}
use Rattle.json_patch_limits.proofs.Depths.{deeper_exactly, step_depth as depth_of_step}
use Rattle.json_patch_limits.proofs.Sizes.{step_size as size_of_step}
use Rattle.json_patch_laws.proofs.InverseDepths.{inverse_shallow as shallow_of_inverse, written_depth as depth_of_written}
use Rattle.json_patch_edit.proofs.StepOutcomes.{stands_found}
use Rattle.json_patch_limits.proofs.Depths.{found_depth}
use Rattle.json_patch_laws.proofs.laws.limits.Goals as goal

pub returns-clause-step_depth : goal.returns-clause-step_depth
returns-clause-step_depth c = depth_of_step

pub returns-clause-step_size : goal.returns-clause-step_size
returns-clause-step_size c = size_of_step

pub returns-clause-over_or_never : goal.returns-clause-over_or_never
returns-clause-over_or_never c = over_ends

pub returns-clause-run_depth : goal.returns-clause-run_depth
returns-clause-run_depth c = depth_of_run

pub returns-clause-run_size : goal.returns-clause-run_size
returns-clause-run_size c = size_of_run

pub returns-clause-inverse_size : goal.returns-clause-inverse_size
returns-clause-inverse_size c = size_of_inverse

pub returns-clause-deeper_exactly : goal.returns-clause-deeper_exactly
returns-clause-deeper_exactly c = deeper_exactly

pub returns-clause-merge_depth : goal.returns-clause-merge_depth
returns-clause-merge_depth c = merged_depth

pub returns-clause-inverse_shallow : goal.returns-clause-inverse_shallow
returns-clause-inverse_shallow c = shallow_of_inverse

pub returns-clause-written_depth : goal.returns-clause-written_depth
returns-clause-written_depth c = depth_of_written

pub returns-clause-stands_depth : goal.returns-clause-stands_depth
returns-clause-stands_depth c = λ d P v stands. found_depth d v P (stands_found d P v stands)
