-- the words of a request
mod RequestLemmas
mod OptionLemmas
-- options and results
mod ResultLemmas
-- what the reading of a request's files comes to
mod FileLemmas
mod ReadLemmas
mod ValidateLemmas
-- from what the parts of a run did to how it ends
mod RunLemmas
-- the verdict that lines have
mod VerdictLemmas
-- the outcome of the bytes of a domain and a problem
mod StatedLemmas
-- what the lines of a plan come to where steps are listed after it
mod WorkedLemmas
-- the outcome of `successors` for the bytes of its files
mod ListedLemmas
-- the outcome that a request has over told files
mod OutcomeLemmas
-- what the lines of a plan lead to
mod ReachLemmas
-- the text of a list, line by line
mod PutLemmas
-- the steps of a list
mod ListLemmas
-- what a listing starts from
mod StartLemmas
-- from what a listing did to how its run ends
mod FinishLemmas
-- how a search ended, and what is printed of that
mod PlanLemmas
-- what an answer to `plan` says of the task
mod PlannedLemmas
mod SaysLemmas
-- from breadth-first search to how a search ends
mod SearchLemmas
-- how many probes the parts of a run take
mod WorkLemmas
-- a made task: its words, its search, its summary, and how its run ends
mod MakeWordLemmas
mod MadeLemmas
mod MadeRunLemmas
mod MakingLemmas
