-- A place on the way to a need, found by its kind and not counted: `the tie.Start (search)` is the function's entry, `the tie.After-decide (search)` what stood right after the call of `decide`.

abbrev pub the : (A : Type 0) → A → A
the A a = a
