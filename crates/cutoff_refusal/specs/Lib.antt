pub mod CutoffRefusal
