-- the task of twins is well-formed
mod TwinLemmas
-- the task of marks is well-formed
mod MarkLemmas
