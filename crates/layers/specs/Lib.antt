pub mod LabelSets
pub mod OneRoots
pub mod Marks
pub mod Roots
