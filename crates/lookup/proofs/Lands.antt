-- Where the search goes on from a number that is not live: when a clause is entered, and while words are lowered. Assumes nothing.
use Prim.Native.Nat.{ℕ, suc, ◌+◌, ◌≤◌, ◌<◌}
use mathlib.Core.Path.{◌≡◌, ◌∙◌}
use mathlib.Core.Logic.{◌≢◌, ◌⊎◌, inl, inr, ⊎_elim}
use mathlib.Core.List.{List}
use native.Mathlib.Omega.{arith}
use native.Mathlib.Decide.{ℕ_discrete}
use lib.ListN.{length, get_or, set}
use lib.Seq.{get_or-set_same, get_or-set_other}
use Rattle.paper.specs.Files.{File}
use Rattle.lookup.specs.Clause.{Entered, Stands, Lands, ClauseTable}

-- the word of k, and that of the number it tells, as in another table
pub lands_kept : {next : ℕ} {ws us : List ℕ} {k : ℕ} → get_or us k 0 ≡ get_or ws k 0 → get_or us (get_or ws k 0) 0 ≡ get_or ws (get_or ws k 0) 0
    → Lands next ws k → Lands next us k
lands_kept e there l = record { above = rw e l.above; ends = λ ne. rw (e, there) (l.ends (λ q. ne (e ∙ q))) }

-- the next number entered
pub lands_entered : {n : ℕ} {ws : List ℕ} (k w : ℕ) → n < length ws → Entered w → k ≢ n → Lands n ws k → Lands (n + 1) (set ws n w) k
lands_entered {n} {ws} k w h in_use ne l = record { above = rw same l.above; ends = λ _. rw same (live (ℕ_discrete (get_or ws k 0) n)) }
  where
    same : get_or (set ws n w) k 0 ≡ get_or ws k 0
    same = get_or-set_other ws n k w 0 ne

    live : Dec (get_or ws k 0 ≡ n) → Entered (get_or (set ws n w) (get_or ws k 0) 0)
    live (yes e) = rw (e, get_or-set_same ws n w 0 h) in_use
    live (no m) = rw (get_or-set_other ws n (get_or ws k 0) w 0 m) (l.ends m)

-- the numbers from k up to m, none of them live
pub record Run (ws : List ℕ) (k m : ℕ) : Type 0 where
  pub below : k < m
  pub none : (j : ℕ) → k ≤ j → j < m → get_or ws j 0 < 1048576

-- the table while words are lowered from m down: as ClauseTable, but what is right below m and not live may yet tell to go on at m
pub record Lowering (formula proof : File) (next m : ℕ) (ws : List ℕ) : Type 0 where
  pub stands : (n : ℕ) → Entered (get_or ws n 0) → Stands formula proof (get_or ws n 0)
  pub passed : (n k : ℕ) → get_or ws n 0 < 1048576 → n ≤ k → k < get_or ws n 0 → get_or ws k 0 < 1048576
  pub bounded : (n : ℕ) → get_or ws n 0 < 1048576 → get_or ws n 0 ≤ next
  pub unused : (n : ℕ) → next ≤ n → get_or ws n 0 ≡ 0
  pub lands : (n : ℕ) → 1 ≤ n → n < next → get_or ws n 0 < 1048576 → Lands next ws n ⊎ Run ws n m

-- any table, before a word is lowered
pub lowering : {f p : File} {next m : ℕ} {ws : List ℕ} → ClauseTable f p next ws → Lowering f p next m ws
lowering t =
    record {
      stands = t.stands;
      passed = t.passed;
      bounded = t.bounded;
      unused = t.unused;
      lands = λ k a b q. inl (t.lands k a b q);
    }

-- the table again, once no run is left right below m
pub settled : {f p : File} {next m : ℕ} {ws : List ℕ} → Lowering f p next m ws → ((k : ℕ) → Run ws k m → Lands next ws k) → ClauseTable f p next ws
settled t last =
    record {
      stands = t.stands;
      passed = t.passed;
      bounded = t.bounded;
      unused = t.unused;
      lands = λ k a b q. ⊎_elim (λ l. l) (last k) (t.lands k a b q);
    }

-- the word right below m, pointed to e, where no number between them is live
pub pointed : {f p : File} {next : ℕ} {ws : List ℕ} (i e : ℕ) → Lowering f p next (suc i) ws → i < length ws → i < next → e ≤ next → e < 1048576
    → ((j : ℕ) → i < j → j < e → get_or ws j 0 < 1048576) → i < e → (e ≢ next → Entered (get_or ws e 0)) → Lowering f p next i (set ws i e)
pointed {f} {p} {next} {ws} i e t h below last low between up end =
    record {
      stands = λ k b. word_stands k b (ℕ_discrete k i);
      passed = λ n k q a b. not_passed n k q a b (ℕ_discrete n i) (ℕ_discrete k i);
      bounded = λ k q. within k q (ℕ_discrete k i);
      unused = λ k b. let ne : k ≢ i = omega arith in other k ne ∙ t.unused k b;
      lands = λ k a b q. landing k a b q (ℕ_discrete k i);
    }
  where
    us : List ℕ
    us = set ws i e

    here : (k : ℕ) → k ≡ i → get_or us k 0 ≡ e
    here k z = rw z (get_or-set_same ws i e 0 h)

    other : (k : ℕ) → k ≢ i → get_or us k 0 ≡ get_or ws k 0
    other k ne = get_or-set_other ws i k e 0 ne

    word_stands : (k : ℕ) → Entered (get_or us k 0) → Dec (k ≡ i) → Stands f p (get_or us k 0)
    word_stands k b (yes z) = let r = here k z in absurd (omega arith)
    word_stands k b (no ne) = rw (other k ne) (t.stands k (rw (other k ne) at b))

    not_passed : (n k : ℕ) → get_or us n 0 < 1048576 → n ≤ k → k < get_or us n 0 → Dec (n ≡ i) → Dec (k ≡ i) → get_or us k 0 < 1048576
    not_passed n k q a b x (yes z) = rw (here k z) low
    not_passed n k q a b (yes z) (no ne) = let r = here n z in rw (other k ne) (between k (omega arith) (omega arith))
    not_passed n k q a b (no m) (no ne) = let r = other n m in rw (other k ne) (t.passed n k (omega arith) a (omega arith))

    within : (k : ℕ) → get_or us k 0 < 1048576 → Dec (k ≡ i) → get_or us k 0 ≤ next
    within k q (yes z) = rw (here k z) last
    within k q (no ne) = rw (other k ne) (t.bounded k (rw (other k ne) at q))

    run : (k : ℕ) → k < i → ((j : ℕ) → k ≤ j → j < i → get_or ws j 0 < 1048576) → Run us k i
    run k x none = record { below = x; none = λ j c d. let ne : j ≢ i = omega arith in rw (other j ne) (none j c d) }

    told : (k : ℕ) → k ≢ i → get_or ws k 0 < 1048576 → Lands next ws k → Dec (get_or ws k 0 ≡ i) → Lands next us k ⊎ Run us k i
    told k ne q l (yes z) = let x = l.above in inr (run k (omega arith) (λ j c d. t.passed k j q c (omega arith)))
    told k ne q l (no m) = inl (lands_kept (other k ne) (other (get_or ws k 0) m) l)

    landing : (k : ℕ) → 1 ≤ k → k < next → get_or us k 0 < 1048576 → Dec (k ≡ i) → Lands next us k ⊎ Run us k i
    landing k a b q (yes z) =
        let ne : e ≢ i = omega arith in
        inl (record { above = rw (here k z) (omega arith); ends = λ m. rw (here k z, other e ne) (end (λ q. m (here k z ∙ q))) })
    landing k a b q (no ne) =
        let y : get_or ws k 0 < 1048576 = rw (other k ne) at q in
        ⊎_elim (λ l. told k ne y l (ℕ_discrete (get_or ws k 0) i))
        (λ r. let x = r.below in inr (run k (omega arith) (λ j c d. r.none j c (omega arith)))) (t.lands k a b y)
