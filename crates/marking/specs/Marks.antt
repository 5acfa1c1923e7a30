-- What marking is, setting by setting, as a function of the lent lists.
use Rattle.std.specs.Prelude.{cond, ◌&&◌, List, [], ◌∷◌, ℕ, zero, suc, ◌-◌, eqb, get_or, set}
use Rattle.model.specs.Form.{holds}
use Rattle.uses.specs.Columns.{Columns, list_at, writes_setting}

-- a Valid change that reads a setting becomes Invalid
abbrev pub marked_place : ℕ → List ℕ → List ℕ → ℕ → List ℕ → List ℕ
marked_place s counts sources place status =
    cond (eqb (get_or status place 0) 1 && holds s (list_at counts sources place)) (set status place 2) status

-- so many changes from a position up, none behind the first that writes the setting: the status table, and one past the last of them
unfoldable pub marked_from : Columns → ℕ → ℕ → ℕ → List ℕ → List ℕ
marked_from C s p zero status = status
marked_from C s p (suc m) status =
    let next = marked_place s C.reads C.sources (get_or C.order p 0) status in
    cond (writes_setting C s p) next (marked_from C s (suc p) m next)

unfoldable pub end_from : Columns → ℕ → ℕ → ℕ → ℕ
end_from C s p zero = p
end_from C s p (suc m) = cond (writes_setting C s p) (suc p) (end_from C s (suc p) m)

-- one setting after the other, each from the same position up to where its readers end
unfoldable pub marked_settings : Columns → List ℕ → ℕ → List ℕ → List ℕ → List ℕ
marked_settings C readers from [] status = status
marked_settings C readers from (s ∷ changed) status =
    marked_settings C readers from changed (marked_from C s from (get_or readers s 0 - from) status)
