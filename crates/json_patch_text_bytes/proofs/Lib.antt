mod Faults
mod KeptFaults
mod MergePatches
