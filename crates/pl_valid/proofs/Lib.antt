-- a set of atoms as a state
mod AtomSets
-- what the parts of a well-formed task and step give their functions
mod StepLemmas
-- lines that were executed, and that there is one verdict
mod RunLemmas
