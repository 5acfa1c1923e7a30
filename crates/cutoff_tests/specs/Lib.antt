pub mod CutoffTests
