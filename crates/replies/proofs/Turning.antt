-- The lines of a drain, turn by turn.
use mathlib.Core.Path.{◌≡◌, refl, sym, ap, subst, ◌∙◌}
use mathlib.Core.Bool.{Bool, true, false}
use mathlib.Core.List.{List, [], ◌++◌, append_assoc}
use Prim.Native.Nat.{ℕ, ◌+◌, ◌*◌, ◌≤◌, ◌<◌}
use native.Mathlib.Omega.{arith}
use lib.ListN.{length}
use Rattle.general.proofs.Cases.{true-is-not-false}
use Rattle.text.specs.Pieces.{Put}
use Rattle.text.proofs.Pieces.{put_as, put-nothing, put_then}
use Rattle.model.specs.Answers.{Turned}
use Rattle.model.specs.Tables.{Tables}
use Rattle.model.specs.Form.{Formed}
use Rattle.model.specs.Calls.{Reply, reply, turn, drain}
use Rattle.model.specs.Log.{turn_call, drain_turns, after_call, begun}
use Rattle.model.proofs.Form.{facts}
use Rattle.theory.proofs.AnyTables.{calls-keep-form, drains-any, drains-by-turns}
use Rattle.lines.specs.Lines.{turn_line}
use Rattle.reply_parts.specs.Parts.{is_idle}
use Rattle.replies.specs.Replies.{capacity, turn_lines}
use Rattle.replies.specs.Putting.{TurnsPut}

-- ---- one turn

idle-is : (a : Turned) → is_idle a ≡ true → a ≡ Turned.Idle
idle-is Turned.Idle q = refl
idle-is (Turned.Ran t) q = true-is-not-false (sym q)
idle-is (Turned.Stood t) q = true-is-not-false (sym q)
idle-is (Turned.Cleared t) q = true-is-not-false (sym q)
idle-is (Turned.Faulted t place) q = true-is-not-false (sym q)
idle-is (Turned.Refused r) q = true-is-not-false (sym q)

turn-formed : (T : Tables) → Formed capacity T → Formed capacity (turn capacity T).tables
unfolding after_call
turn-formed T g = calls-keep-form capacity turn_call (begun T) g

-- ---- a drain under way

-- lines of the turns so far are put; with those of the turns left they are the lines of the whole drain
pub record Turning (T₀ : Tables) (at : ℕ) (before : List ℕ) (T : Tables) (text : List ℕ) (end : ℕ) : Type 0 where
  pub formed : Formed capacity T
  pub lines : List ℕ
  pub put : Put at lines before text end
  pub whole : lines ++ turn_lines (drain_turns capacity T) ≡ turn_lines (drain_turns capacity T₀)
  pub short : end + 64 * length (drain_turns capacity T) ≤ at + 8192
  pub left : (drain capacity T).tables ≡ (drain capacity T₀).tables
  pub same : length text ≡ length before

pub turning-begins : (T : Tables) (at : ℕ) (text : List ℕ) → Formed capacity T → Turning T at text T text at
turning-begins T at text g =
    let few = (drains-any capacity T g).few-turns in
    record {
      formed = g;
      lines = [];
      put = put-nothing at text;
      whole = refl;
      short = omega (arith, few, (facts g).form.small);
      left = refl;
      same = refl;
    }

-- from T to U there is a turn less
abbrev Next : Tables → ℕ → List ℕ → Tables → Tables → List ℕ → ℕ → Type 0
Next T₀ at before T U text end = Turning T₀ at before U text end × (length (drain_turns capacity U) < length (drain_turns capacity T))

-- after one turn and its line
module _ {T₀ : Tables} {at : ℕ} {before : List ℕ} {T : Tables} {text : List ℕ} {end : ℕ} (k : Turning T₀ at before T text end) (room : at ≤ length before) {last : List ℕ} {r : ℕ} where
  -- which was idle
  idle-ends : is_idle (turn capacity T).answer ≡ true → Put end (turn_line (turn capacity T).answer) text last r → TurnsPut T₀ at before last (turn capacity T).tables.view r
  idle-ends q p =
      let i = idle-is (turn capacity T).answer q in
      let d = drains-by-turns capacity T k.formed in
      let none = d.none_left i in
      let nothing : Put end [] text last r = put_as p (ap turn_line i) in
      record {
        put = put_as (put_then k.put room nothing) (ap (λ (l : List Turned). k.lines ++ turn_lines l) (sym none.0) ∙ k.whole);
        short = omega (arith, nothing.ends, k.short);
        left = ap (λ (U : Tables). U.view) (d.idle-leaves i ∙ sym none.1 ∙ k.left);
      }

  pub turning-ends : {a : Turned} {U : Tables} {idle : Bool} → reply a U ≡ turn capacity T → idle ≡ is_idle a → idle ≡ true → Put end (turn_line a) text last r → TurnsPut T₀ at before last U.view r
  turning-ends e d t p =
      subst (λ (y : Reply Turned). is_idle y.answer ≡ true → Put end (turn_line y.answer) text last r → TurnsPut T₀ at before last y.tables.view r) (sym e) idle-ends (sym d ∙ t) p

  -- which was not
  module _ (short : r ≤ end + 64) (same : length last ≡ length text) where
    turn-next : is_idle (turn capacity T).answer ≡ false → Put end (turn_line (turn capacity T).answer) text last r → Next T₀ at before T (turn capacity T).tables last r
    turn-next q p =
        let d = (drains-by-turns capacity T k.formed).one_more (λ i. true-is-not-false (sym (ap is_idle i) ∙ q)) in
        let n = ap (λ (l : List Turned). length l) d.0 in (
          record {
            formed = turn-formed T k.formed;
            lines = k.lines ++ turn_line (turn capacity T).answer;
            put = put_then k.put room p;
            whole = append_assoc k.lines _ _ ∙ ap (λ (l : List Turned). k.lines ++ turn_lines l) (sym d.0) ∙ k.whole;
            short = omega (arith, short, n, k.short);
            left = sym d.1 ∙ k.left;
            same = same ∙ k.same;
          },
          omega (arith, n),
        )

    pub turning-goes-on : {a : Turned} {U : Tables} {idle : Bool} → reply a U ≡ turn capacity T → idle ≡ is_idle a → idle ≡ false → Put end (turn_line a) text last r → Turning T₀ at before U last r × (length (drain_turns capacity U) < length (drain_turns capacity T))
    turning-goes-on e d t p =
        subst (λ (y : Reply Turned). is_idle y.answer ≡ false → Put end (turn_line y.answer) text last r → Next T₀ at before T y.tables last r) (sym e) turn-next (sym d ∙ t) p
