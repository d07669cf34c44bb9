use Rattle.pl_top.proofs.ResultLemmas.{if_some, if_none}
use Rattle.pl_top.proofs.OptionLemmas.{request_runs}
use Rattle.pl_top.proofs.MadeRunLemmas.{no_reading}
use Rattle.pl_top.proofs.RunLemmas.{run_complete}
use Rattle.pl_top.proofs.SaysLemmas.{run_says, run_decides}
use Rattle.pl_top.proofs.running.run.Goals as goal

pub returns-in-None-clause-bad_words : goal.returns-in-None-clause-bad_words
returns-in-None-clause-bad_words g c = if_none _ _ c.in-None.ensures c.put_line.ensures

pub returns-in-Some-clause-ends : goal.returns-in-Some-clause-ends
returns-in-Some-clause-ends g c = if_some _ _ _ c.in-Some.ensures c.perform.ensures.ends

pub returns-in-Some-clause-no_file : goal.returns-in-Some-clause-no_file
returns-in-Some-clause-no_file g c = if_some _ _ _ c.in-Some.ensures c.perform.ensures.no_file

pub returns-in-Some-clause-no_read : goal.returns-in-Some-clause-no_read
returns-in-Some-clause-no_read g c =
    if_some _ _ _ c.in-Some.ensures (no_reading _ _ _ _ _ _ _ _ c.perform.ensures.ends)

pub returns-in-Some-clause-probes : goal.returns-in-Some-clause-probes
returns-in-Some-clause-probes g c = if_some _ _ _ c.in-Some.ensures c.perform.ensures.probes

pub returns-in-Some-clause-complete : goal.returns-in-Some-clause-complete
returns-in-Some-clause-complete g c =
    if_some _ _ _ c.in-Some.ensures (run_complete _ _ _ _ _ _ _ _ c.perform.ensures.ends)

pub perform-requires : goal.perform-requires
perform-requires g c = request_runs c.args.words.now _ c.in-Some.ensures

pub returns-in-Some-clause-says : goal.returns-in-Some-clause-says
returns-in-Some-clause-says g c =
    if_some _ _ _ c.in-Some.ensures (run_says _ _ _ _ _ _ _ _ c.perform.ensures.ends)

pub returns-in-Some-clause-decisive : goal.returns-in-Some-clause-decisive
returns-in-Some-clause-decisive g c =
    if_some _ _ _ c.in-Some.ensures (run_decides c.task_is_one.ensures _ _ _ _ _ _ _ _ c.perform.ensures.ends)

pub returns-in-Some-clause-work : goal.returns-in-Some-clause-work
returns-in-Some-clause-work g c = if_some _ _ _ c.in-Some.ensures c.perform.ensures.work
