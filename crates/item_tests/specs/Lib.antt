pub mod ItemTests
