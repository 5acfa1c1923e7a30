-- What the cabinet program prints of the reply to a package (document 01, "Cases to know").
use Rattle.std.specs.Prelude.{cond, List, [], ◌∷◌, ◌++◌, ℕ, eqb}
use Rattle.model.specs.Answers.{Turned}
use Rattle.model.specs.Calls.{answer_number, PackageReply, drain}
use Rattle.model.specs.Log.{drain_turns}
use Rattle.lines.specs.Lines.{package_line, turn_line}
use Rattle.reply_parts.specs.Parts.{entry_lines, setting_lines}

-- N
abbrev pub capacity : ℕ
capacity = 128

-- turns, as single turns answer them
abbrev pub turn_lines : List Turned → List ℕ
turn_lines [] = []
turn_lines (a ∷ turns) = turn_line a ++ turn_lines turns

-- a package's reply, and the turns and the view of the drain after it; a refused package has its one line
abbrev pub reply_lines : List ℕ → PackageReply → List ℕ
reply_lines bytes r =
    cond (eqb (answer_number r.answer) 0)
    (entry_lines bytes r.answers ++ turn_lines (drain_turns capacity r.tables) ++ setting_lines (drain capacity r.tables).tables.view)
    (package_line (answer_number r.answer))
