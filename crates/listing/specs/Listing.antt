-- What the cabinet program prints for a package (document 01, "Cases to know").
use Rattle.std.specs.Prelude.{List, ℕ}
use Rattle.model.specs.Tables.{Tables}
use Rattle.model.specs.Calls.{set_up, take_in_package}
use Rattle.replies.specs.Replies.{capacity, reply_lines}

-- the package is taken in on tables just set up
unfoldable pub listing : Tables → List ℕ → List ℕ → List ℕ
listing T bytes answers = reply_lines bytes (take_in_package capacity (set_up capacity T).tables bytes answers)
