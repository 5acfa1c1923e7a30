-- Document 01's cases P1 to P11 and its package ("Cases to know"), with the start values of document 02 (R-1), carried out by the definitions of the calls; what package out writes then (R-3); totals of two consoles (R-5); programs of version 1 (R-6); and cutoffs (R-7). The table is proved by computation.
use Rattle.std.specs.Prelude.{◌≡◌, refl, Bool, true, false, cond, ◌&&◌, List, [], ◌∷◌, ◌++◌, map, ℕ, suc, ◌*◌, ◌/◌, ◌%◌, eqb, ℤ, pos, negsuc, replicate}
use Rattle.std.specs.Int.Count.{ones_in}
use Rattle.words.specs.Words.{pattern_of, number_of, wrap, floor_div, ones_of}
use Rattle.start_values.specs.StartValues.{start_table}
use Rattle.machine.specs.Settings.{setting_count, named, first_value, replace_first, entries, lookup}
use Rattle.machine.specs.Instruction.{Program, instruction_at, instructions_from, program_of, code}
use Rattle.general.specs.Lists.{all_below}
use Rattle.machine.specs.Form.{is_well_formed, length_fits, all_well_formed}
use Rattle.machine.specs.Run.{effect, shift_right, enter, load, store, perform, step, run_from, run_program, run}
use Rattle.machine.specs.Examples.{instruction, constant, reading, writing}
use Rattle.model.specs.Answers.{Answer, Done, Held, Turned, Ran, Stood, Cleared, Faulted, Value, Is, Standing, At, Packed}
use Rattle.model.specs.History.{start, run_lists}
use Rattle.model.specs.Figure.{round}
use Rattle.model.specs.Drain.{drain_for, drain_history, total_count, totals}
use Rattle.model.specs.Tables.{Tables, pad, encode, decode}
use Rattle.model.specs.Form.{lengths_fit, in_form}
use Rattle.model.specs.Refusals.{same_bytes}
use Rattle.model.specs.Package.{number_at, count_before, layout_fits, items_of, package_of}
use Rattle.model.specs.Calls.{Reply, set_up, item_answer, if_done, take_in, withdraw, take_in_package, raise_cutoff, turn, drain, TotalsReply, drain_with_totals, current_value, value_as_of, standing, PackedReply, packed_reply, package_out}
use Rattle.model.specs.Log.{drain_turns}

-- ---- programs

-- a program's bytes, 8 for each instruction
abbrev bytes_of : Program → List ℕ
bytes_of [] = []
bytes_of (i ∷ program) =
    let p = pattern_of i.n in
    i.operation ∷ i.a ∷ i.b ∷ i.c ∷ p % 256 ∷ p / 256 % 256 ∷ p / 65536 % 256 ∷ p / 16777216 ∷ bytes_of program

-- sets setting s to v
abbrev sets : ℕ → ℤ → Program
sets s v = constant 0 v ∷ writing s 0 ∷ []

-- copies setting s to r
abbrev copies : ℕ → ℕ → Program
copies s r = reading 0 s ∷ writing r 0 ∷ []

-- adds n to setting s, subtracts n from it; the new value stays in register 2
abbrev adds : ℕ → ℤ → Program
adds s n = reading 0 s ∷ constant 1 n ∷ instruction 3 2 0 1 (pos 0) ∷ writing s 2 ∷ []

abbrev subtracts : ℕ → ℤ → Program
subtracts s n = reading 0 s ∷ constant 1 n ∷ instruction 4 2 0 1 (pos 0) ∷ writing s 2 ∷ []

-- stops if register 2 is not negative, else sets setting s to 1
abbrev alarms : ℕ → Program
alarms s = instruction 15 0 2 0 (pos 1) ∷ instruction 0 0 0 0 (pos 0) ∷ sets s (pos 1)

-- ---- the table

-- what a drain answers, and the totals other than 0 that it leaves, each with its place
record Drained : Type 0 where
  answer : Answer
  placed : List (ℕ × ℕ)

-- a step of a script: every taking in and withdrawal is to be answered done; the entries of a package, a cutoff, a turn and a drain are to be answered as listed behind them
data Action : Type 0 where
  takes_in_by : ℕ → ℕ → Program → Action
  takes_in_package : List ℕ → List ℕ → Action
  withdraws : ℕ → Action
  cuts : ℕ → Answer → Action
  turns : Turned → Action
  drains : List Turned → Drained → Action

-- what a call answers after the last drain: the current value of s, the value as of t of s, the standing of t, package out into so many zeros, a program of a version taken in with the timestamp t, a cutoff at t
data Fact : Type 0 where
  current : ℕ → Value → Fact
  as_of : ℕ → ℕ → Value → Fact
  stands : ℕ → Standing → Fact
  packs : ℕ → PackedReply → Fact
  takes : ℕ → ℕ → Program → Answer → Fact
  cut : ℕ → Answer → Fact

-- the steps before the last drain, the turns of that drain, its answer, and what holds after it
record Case : Type 0 where
  script : List Action
  turned : List Turned
  answer : Drained
  facts : List Fact

-- a program of version 0 taken in with a timestamp
abbrev takes_in : ℕ → Program → Action
takes_in = takes_in_by 0

-- done, with these totals and else zeros
abbrev counted : List (ℕ × ℕ) → Drained
counted placed = record { answer = Done; placed = placed }

-- a drain with its turns, all of which ran, of changes stamped below 256
abbrev drains_running : List ℕ → Action
drains_running timestamps = drains (map Ran timestamps) (counted (map (λ t. (4 * t, 1)) timestamps))

-- an entry of a package's contents, stamped below 256, of a version and of version 0
abbrev listed_by : ℕ → ℕ → ℕ → ℕ → List ℕ
listed_by version t kind count = t ∷ (replicate 7 0 ++ (kind ∷ count ∷ version ∷ 0 ∷ []))

abbrev listed : ℕ → ℕ → ℕ → List ℕ
listed = listed_by 0

-- nothing held: no turns
P1 : Case
P1 = record { script = []; turned = []; answer = counted []; facts = [] }

-- 20 sets 34 to 5, drained; 10 sets 34 to 7: 10 ran; view 5, as of 15 it is 7
P2 : Case
P2 =
    record {
      script = takes_in 20 (sets 34 (pos 5)) ∷ drains_running (20 ∷ []) ∷ takes_in 10 (sets 34 (pos 7)) ∷ [];
      turned = Ran 10 ∷ [];
      answer = counted ((40, 1) ∷ []);
      facts = current 34 (Is (pos 5)) ∷ as_of 15 34 (Is (pos 7)) ∷ [];
    }

-- 20 copies 34 to 50, drained; 10 sets 34 to 7: 10 and 20 ran; 50 is 7
P3 : Case
P3 =
    record {
      script = takes_in 20 (copies 34 50) ∷ drains_running (20 ∷ []) ∷ takes_in 10 (sets 34 (pos 7)) ∷ [];
      turned = Ran 10 ∷ Ran 20 ∷ [];
      answer = counted ((40, 1) ∷ (80, 1) ∷ []);
      facts = current 50 (Is (pos 7)) ∷ [];
    }

-- as P3, but 10 sets 34 to 1, where it starts: only 10 has a turn
P4 : Case
P4 =
    record {
      script = takes_in 20 (copies 34 50) ∷ drains_running (20 ∷ []) ∷ takes_in 10 (sets 34 (pos 1)) ∷ [];
      turned = Ran 10 ∷ [];
      answer = counted ((40, 1) ∷ []);
      facts = current 50 (Is (pos 1)) ∷ [];
    }

-- 20 sets 34 to 5, 30 copies 34 to 50, drained; 10 sets 34 to 7: only 10
P5 : Case
P5 =
    record {
      script = takes_in 20 (sets 34 (pos 5)) ∷ takes_in 30 (copies 34 50) ∷ drains_running (20 ∷ 30 ∷ []) ∷ takes_in 10 (sets 34 (pos 7)) ∷ [];
      turned = Ran 10 ∷ [];
      answer = counted ((40, 1) ∷ []);
      facts = current 34 (Is (pos 5)) ∷ current 50 (Is (pos 5)) ∷ [];
    }

-- 20 adds 1 to 34 by reading and writing, drained; 10 sets 34 to 7: both ran; 34 is 8
P6 : Case
P6 =
    record {
      script = takes_in 20 (adds 34 (pos 1)) ∷ drains_running (20 ∷ []) ∷ takes_in 10 (sets 34 (pos 7)) ∷ [];
      turned = Ran 10 ∷ Ran 20 ∷ [];
      answer = counted ((40, 1) ∷ (80, 1) ∷ []);
      facts = current 34 (Is (pos 8)) ∷ [];
    }

-- 30 copies 34 to 50, drained; 10 sets 34 to 7, one turn; 20 sets 34 to 1: 20 ran, 30 stood
P7 : Case
P7 =
    record {
      script =
          takes_in 30 (copies 34 50) ∷ drains_running (30 ∷ []) ∷ takes_in 10 (sets 34 (pos 7)) ∷ turns (Ran 10) ∷ takes_in 20 (sets 34 (pos 1)) ∷ [];
      turned = Ran 20 ∷ Stood 30 ∷ [];
      answer = counted ((80, 1) ∷ (121, 1) ∷ []);
      facts = current 50 (Is (pos 1)) ∷ stands 30 (At 1 0) ∷ [];
    }

-- 10 sets 34 to 7 and 40 to 3, drained, withdrawn: cleared; both are back where they start, 34 at 1 and 40 at 0. Written out, 10 stands as a change and as a withdrawal
P8 : Case
P8 =
    record {
      script = takes_in 10 (sets 34 (pos 7) ++ sets 40 (pos 3)) ∷ drains_running (10 ∷ []) ∷ withdraws 10 ∷ [];
      turned = Cleared 10 ∷ [];
      answer = counted ((42, 1) ∷ []);
      facts =
          current 34 (Is (pos 1))
          ∷ current 40 (Is (pos 0))
          ∷ stands 10 (At 1 1)
          ∷ packs 58 (packed_reply (Packed.Length 58) (2 ∷ 0 ∷ (listed 10 0 4 ++ listed 10 1 0 ++ bytes_of (sets 34 (pos 7) ++ sets 40 (pos 3)))))
          ∷ [];
    }

-- 10 writes 34 twice, the second time by its fourth instruction: it faults at place 3 and writes nothing; 34 stays where it starts, at 1
P9 : Case
P9 =
    record {
      script = takes_in 10 (sets 34 (pos 7) ++ sets 34 (pos 5)) ∷ [];
      turned = Faulted 10 3 ∷ [];
      answer = counted ((43, 1) ∷ []);
      facts = current 34 (Is (pos 1)) ∷ as_of 20 34 (Is (pos 1)) ∷ [];
    }

-- −2,147,483,648 negated is itself; 2,147,483,647 + 1 is −2,147,483,648; −5 by op 6 with n = 1 is −3; −1 has 32 ones
P10 : Case
P10 =
    record {
      script =
          takes_in 10 (constant 0 (negsuc 2147483647) ∷ instruction 5 1 0 0 (pos 0) ∷ writing 34 1 ∷ [])
          ∷ takes_in 20 (constant 0 (pos 2147483647) ∷ constant 1 (pos 1) ∷ instruction 3 2 0 1 (pos 0) ∷ writing 35 2 ∷ [])
          ∷ takes_in 30 (constant 0 (negsuc 4) ∷ instruction 6 1 0 0 (pos 1) ∷ writing 36 1 ∷ [])
          ∷ takes_in 40 (constant 0 (negsuc 0) ∷ instruction 7 1 0 0 (pos 0) ∷ writing 37 1 ∷ [])
          ∷ [];
      turned = Ran 10 ∷ Ran 20 ∷ Ran 30 ∷ Ran 40 ∷ [];
      answer = counted ((40, 1) ∷ (80, 1) ∷ (120, 1) ∷ (160, 1) ∷ []);
      facts =
          current 34 (Is (negsuc 2147483647))
          ∷ current 35 (Is (negsuc 2147483647))
          ∷ current 36 (Is (negsuc 2))
          ∷ current 37 (Is (pos 32))
          ∷ [];
    }

-- 10 sets 36 to 400, 30 takes 300 from 36 and sets 37 to 1 if negative, drained: 100 and 0
P11-before : Case
P11-before =
    record {
      script = takes_in 10 (sets 36 (pos 400)) ∷ takes_in 30 (subtracts 36 (pos 300) ++ alarms 37) ∷ [];
      turned = Ran 10 ∷ Ran 30 ∷ [];
      answer = counted ((40, 1) ∷ (120, 1) ∷ []);
      facts = current 36 (Is (pos 100)) ∷ current 37 (Is (pos 0)) ∷ [];
    }

-- then 20 takes 200: 20 and 30 ran; −100 and 1
P11-after : Case
P11-after =
    record {
      script =
          takes_in 10 (sets 36 (pos 400))
          ∷ takes_in 30 (subtracts 36 (pos 300) ++ alarms 37)
          ∷ drains_running (10 ∷ 30 ∷ [])
          ∷ takes_in 20 (subtracts 36 (pos 200))
          ∷ [];
      turned = Ran 20 ∷ Ran 30 ∷ [];
      answer = counted ((80, 1) ∷ (120, 1) ∷ []);
      facts = current 36 (Is (negsuc 99)) ∷ current 37 (Is (pos 1)) ∷ [];
    }

-- the package of 70 bytes: 20 (copy 34 to 50), 10 (set 34 to 7), withdrawal of 15: taken, taken, refused 10; 10 and 20 ran; 34 and 50 are 7. Written out, 10 stands before 20 in 58 bytes
sample-package : Case
sample-package =
    record {
      script =
          takes_in_package (3 ∷ 0 ∷ (listed 20 0 2 ++ listed 10 0 2 ++ listed 15 1 0 ++ bytes_of (copies 34 50 ++ sets 34 (pos 7)))) (0 ∷ 0 ∷ 10 ∷ [])
          ∷ [];
      turned = Ran 10 ∷ Ran 20 ∷ [];
      answer = counted ((40, 1) ∷ (80, 1) ∷ []);
      facts =
          current 34 (Is (pos 7))
          ∷ current 50 (Is (pos 7))
          ∷ packs 60 (packed_reply (Packed.Length 58) (2 ∷ 0 ∷ (listed 10 0 2 ++ listed 20 0 2 ++ bytes_of (sets 34 (pos 7) ++ copies 34 50) ++ (0 ∷ 0 ∷ []))))
          ∷ packs 57 (packed_reply (Packed.Refused 12) (replicate 57 0))
          ∷ [];
    }

-- document 02, R-5: 10 and 266 have the same lowest 8 bits, those of console 10; 255 is of console 255
two-consoles : Case
two-consoles =
    record {
      script = takes_in 266 (sets 34 (pos 7)) ∷ takes_in 255 (sets 35 (pos 5)) ∷ takes_in 10 (sets 36 (pos 3)) ∷ [];
      turned = Ran 10 ∷ Ran 255 ∷ Ran 266 ∷ [];
      answer = counted ((40, 2) ∷ (1020, 1) ∷ []);
      facts = [];
    }

-- document 02, R-6: 20 sets 36 to 400, adds 1 to it and copies it to 50. In version 1 it reads back 400 and 401, which enter no read list, and 36 stands in its write list once; so 10, which sets 36 too, does not make it run again. With version 0 it is another program; there is no version 2, which is refused before a malformed instruction, and after a wrong length.
-- Written out, its entry has its version
abbrev reads_back : Program
reads_back = sets 36 (pos 400) ++ adds 36 (pos 1) ++ copies 36 50

own-writes : Case
own-writes =
    record {
      script = takes_in_by 1 20 reads_back ∷ drains_running (20 ∷ []) ∷ takes_in 10 (sets 36 (pos 7)) ∷ [];
      turned = Ran 10 ∷ [];
      answer = counted ((40, 1) ∷ []);
      facts =
          current 36 (Is (pos 401))
          ∷ current 50 (Is (pos 401))
          ∷ as_of 20 36 (Is (pos 7))
          ∷ takes 1 20 reads_back Held
          ∷ takes 0 20 reads_back (Answer.Refused 8)
          ∷ takes 2 20 reads_back (Answer.Refused 13)
          ∷ takes 2 20 (instruction 18 0 0 0 (pos 0) ∷ []) (Answer.Refused 13)
          ∷ takes 2 20 (replicate 33 (instruction 0 0 0 0 (pos 0))) (Answer.Refused 6)
          ∷ packs 106 (packed_reply (Packed.Length 106) (2 ∷ 0 ∷ (listed 10 0 2 ++ listed_by 1 20 0 8 ++ bytes_of (sets 36 (pos 7) ++ reads_back))))
          ∷ [];
    }

-- the same program in version 0 faults at place 2, where it reads what it has written
no-own-writes : Case
no-own-writes =
    record {
      script = takes_in 20 reads_back ∷ [];
      turned = Faulted 20 2 ∷ [];
      answer = counted ((83, 1) ∷ []);
      facts = current 36 (Is (pos 0)) ∷ [];
    }

-- a package with P9's program in version 1: 10 sets 34 to 7, then to 5, and ran
own-writes-package : Case
own-writes-package =
    record {
      script =
          takes_in_package (2 ∷ 0 ∷ (listed_by 1 10 0 4 ++ listed 15 1 0 ++ bytes_of (sets 34 (pos 7) ++ sets 34 (pos 5)))) (0 ∷ 10 ∷ [])
          ∷ [];
      turned = Ran 10 ∷ [];
      answer = counted ((40, 1) ∷ []);
      facts = current 34 (Is (pos 5)) ∷ [];
    }

-- document 02, R-7: 30, 10, 40 and 20 arrive in this order and fill the tables; drained, 20 is withdrawn. A cutoff at 30 is refused while 20 is Invalid. Once 20 is cleared it drops 10 and 20, and keeps the value 400 of setting 36; 30 and 40 close up to places 0 and 1. Then 35 takes a freed place, reads 400, and makes
-- 40 run again. 30, exactly at the cutoff, is held. What is stamped below the cutoff meets 14; 0, which is no timestamp, meets 4 before that
cut_off : Case
cut_off =
    record {
      script =
          takes_in 30 (sets 34 (pos 5))
          ∷ takes_in 10 (sets 36 (pos 400))
          ∷ takes_in 40 (adds 36 (pos 1))
          ∷ takes_in 20 (subtracts 36 (pos 300))
          ∷ drains_running (10 ∷ 20 ∷ 30 ∷ 40 ∷ [])
          ∷ withdraws 20
          ∷ cuts 30 (Answer.Refused 15)
          ∷ drains (Cleared 20 ∷ Ran 40 ∷ []) (counted ((82, 1) ∷ (160, 1) ∷ []))
          ∷ cuts 30 Done
          ∷ takes_in 35 (adds 36 (pos 50))
          ∷ [];
      turned = Ran 35 ∷ Ran 40 ∷ [];
      answer = counted ((140, 1) ∷ (160, 1) ∷ []);
      facts =
          current 36 (Is (pos 451))
          ∷ as_of 30 36 (Is (pos 400))
          ∷ as_of 36 36 (Is (pos 450))
          ∷ as_of 30 34 (Is (pos 1))
          ∷ as_of 31 34 (Is (pos 5))
          ∷ as_of 29 36 (Value.Refused 14)
          ∷ stands 30 (At 1 0)
          ∷ stands 20 (Standing.Refused 14)
          ∷ takes 0 29 [] (Answer.Refused 14)
          ∷ takes 0 0 [] (Answer.Refused 4)
          ∷ takes 2 29 [] (Answer.Refused 14)
          ∷ cut 29 (Answer.Refused 14)
          ∷ cut 30 Done
          ∷ [];
    }

-- a later cutoff goes on from the kept values: 401, which 30 makes of the 400 that 10 left
cut_again : Case
cut_again =
    record {
      script =
          takes_in 10 (sets 36 (pos 400))
          ∷ drains_running (10 ∷ [])
          ∷ cuts 20 Done
          ∷ takes_in 30 (adds 36 (pos 1))
          ∷ drains_running (30 ∷ [])
          ∷ cuts 40 Done
          ∷ takes_in 50 (copies 36 50)
          ∷ [];
      turned = Ran 50 ∷ [];
      answer = counted ((200, 1) ∷ []);
      facts = current 50 (Is (pos 401)) ∷ as_of 40 36 (Is (pos 401)) ∷ cut 20 (Answer.Refused 14) ∷ [];
    }

cases : List Case
cases =
    P1 ∷ P2 ∷ P3 ∷ P4 ∷ P5 ∷ P6 ∷ P7 ∷ P8 ∷ P9 ∷ P10 ∷ P11-before ∷ P11-after ∷ sample-package ∷ two-consoles ∷ own-writes ∷ no-own-writes ∷ own-writes-package ∷ cut_off ∷ cut_again ∷ []

-- ---- carrying it out

abbrev capacity : ℕ
capacity = 4

-- tables of zeros
abbrev blank : Tables
blank =
    record {
      held = 0 ∷ [];
      timestamps = replicate capacity 0;
      order = replicate capacity 0;
      status = replicate capacity 0;
      withdrawn = replicate capacity 0;
      lengths = replicate capacity 0;
      programs = replicate (256 * capacity) 0;
      reads = replicate capacity 0;
      writes = replicate capacity 0;
      sources = replicate (32 * capacity) 0;
      seen = replicate (32 * capacity) (pos 0);
      targets = replicate (32 * capacity) 0;
      written = replicate (32 * capacity) (pos 0);
      view = replicate setting_count (pos 0);
      versions = replicate capacity 0;
      cutoff = 0 ∷ [];
      kept = replicate setting_count (pos 0);
    }

-- the tables after some calls, whether the set up and every taking in, package and withdrawal among them was answered as it is to be, and the cutoffs, turns and drains among them as they were answered
record Progress : Type 0 where
  tables : Tables
  done : Bool
  answered : List Action

-- a drain that is lent 1,024 sevens
abbrev drained : Tables → TotalsReply
drained T = drain_with_totals capacity T (replicate total_count 7)

-- the totals other than 0 from a place on, each with its place
abbrev placed_from : ℕ → List ℕ → List (ℕ × ℕ)
placed_from i [] = []
placed_from i (n ∷ totals) = cond (eqb n 0) (placed_from (suc i) totals) ((i, n) ∷ placed_from (suc i) totals)

abbrev drained_as : TotalsReply → Drained
drained_as r = record { answer = r.answer; placed = placed_from 0 r.totals }

-- after a call that is to be answered done
abbrev follow : Progress → Reply Answer → Progress
follow s r = record { tables = r.tables; done = if_done r.answer s.done false; answered = s.answered }

abbrev carry_out : Action → Progress → Progress
carry_out (takes_in_by version t p) s = follow s (take_in capacity s.tables t (code version (bytes_of p)))
carry_out (takes_in_package bytes answers) s =
    let r = take_in_package capacity s.tables bytes (replicate 512 0) in
    record {
      tables = r.tables;
      done = if_done r.answer (same_bytes r.answers (pad 512 0 answers) && s.done) false;
      answered = s.answered;
    }
carry_out (withdraws t) s = follow s (withdraw capacity s.tables t)
carry_out (cuts t a) s =
    let r = raise_cutoff capacity s.tables t in
    record { tables = r.tables; done = s.done; answered = s.answered ++ (cuts t r.answer ∷ []) }
carry_out (turns a) s =
    let r = turn capacity s.tables in
    record { tables = r.tables; done = s.done; answered = s.answered ++ (turns r.answer ∷ []) }
carry_out (drains turned a) s =
    let r = drained s.tables in
    record { tables = r.tables; done = s.done; answered = s.answered ++ (drains (drain_turns capacity s.tables) (drained_as r) ∷ []) }

abbrev carry_out_all : List Action → Progress → Progress
carry_out_all [] s = s
carry_out_all (a ∷ script) s = carry_out_all script (carry_out a s)

-- tables just set up
abbrev begun : Progress
begun = follow (record { tables = blank; done = true; answered = [] }) (set_up capacity blank)

-- the cutoffs, turns and drains of a script, as they are to be answered
abbrev to_answer : List Action → List Action
to_answer [] = []
to_answer (takes_in_by version t p ∷ script) = to_answer script
to_answer (takes_in_package bytes answers ∷ script) = to_answer script
to_answer (withdraws t ∷ script) = to_answer script
to_answer (cuts t a ∷ script) = cuts t a ∷ to_answer script
to_answer (turns a ∷ script) = turns a ∷ to_answer script
to_answer (drains turned a ∷ script) = drains turned a ∷ to_answer script

-- the fact as the call answers it
abbrev asked : Tables → Fact → Fact
asked T (current s v) = current s (current_value capacity T s)
asked T (as_of t s v) = as_of t s (value_as_of capacity T t s)
asked T (stands t v) = stands t (standing capacity T t)
asked T (packs k r) = packs k (package_out capacity T (replicate k 0))
asked T (takes version t p a) = takes version t p (take_in capacity T t (code version (bytes_of p))).answer
asked T (cut t a) = cut t (raise_cutoff capacity T t).answer

-- what carrying out a case gives: whether the script's items were answered as they are to be, its cutoffs, turns and drains as answered, the turns of the last drain, its answer, and the facts
record Outcome : Type 0 where
  done : Bool
  answered : List Action
  turned : List Turned
  answer : Drained
  facts : List Fact

outcome : Case → Outcome
outcome c =
    let s = carry_out_all c.script begun in
    let r = drained s.tables in
    record {
      done = s.done;
      answered = s.answered;
      turned = drain_turns capacity s.tables;
      answer = drained_as r;
      facts = map (asked r.tables) c.facts;
    }

expected : Case → Outcome
expected c = record { done = true; answered = to_answer c.script; turned = c.turned; answer = c.answer; facts = c.facts }

cases-hold : map outcome cases ≡ map expected cases
unfolding cases P1 P2 P3 P4 P5 P6 P7 P8 P9 P10 P11-before P11-after sample-package two-consoles own-writes no-own-writes own-writes-package cut_off cut_again outcome expected set_up take_in withdraw take_in_package raise_cutoff turn drain drain_with_totals totals current_value value_as_of standing package_out package_of item_answer layout_fits items_of number_at count_before encode decode lengths_fit in_form drain_history drain_for round start start_table run_lists run run_program run_from step perform effect load store enter named first_value replace_first lookup entries length_fits all_well_formed all_below is_well_formed program_of instructions_from instruction_at shift_right pattern_of number_of wrap floor_div ones_of ones_in
cases-hold = refl
