-- What the run refuses is printed so; a sheet has at most sixteen tasks, and a run that is accepted at most 60,000 ticks.
use Rattle.std.proofs.Common.{rules, arith}
use Rattle.text.proofs.Printed.{run_refused, head_few, horizon_few}
use Rattle.lts.proofs.put_accepted.Goals as goal

pub returns-in_err-st-clause-err : goal.returns-in_err-st-clause-err
returns-in_err-st-clause-err c = search (rules, run_refused _ _ _ _ c.in_err-st.ensures.0 (omega arith))

pub shared_ref_as_front-put_report : goal.shared_ref_as_front-put_report
shared_ref_as_front-put_report c = omega (arith, head_few _ _ c.in_ok-head.ensures)

pub shared_ref_as_front-put_report-3 : goal.shared_ref_as_front-put_report-3
shared_ref_as_front-put_report-3 c = omega (arith, horizon_few _ _ _ _ c.in_ok-st.ensures.0 (omega arith))
