-- What the words of the clause table always are: at the start, when a clause is entered, when a number is cleared, and over those in use.
-- Assumes nothing.
use Prim.Native.Nat.{ℕ, zero, suc, ◌+◌, ◌-◌, ◌≤◌, ◌<◌, max}
use mathlib.Core.Path.{◌≡◌, refl, sym, ◌∙◌}
use mathlib.Core.Logic.{◌≢◌}
use mathlib.Core.Bool.{Bool, true, false}
use mathlib.Core.List.{List, [], ◌∷◌}
use native.Mathlib.Omega.{arith}
use native.Mathlib.Decide.{ℕ_discrete}
use lib.Dec.{leb}
use lib.ListN.{length, get_or, set, take, drop, length-set}
use lib.Seq.{length-take-le, get_or-set_same, get_or-set_other}
use Rattle.paper.specs.Files.{File}
use Rattle.paper.proofs.Lists.{leb_yes, leb_no}
use Rattle.lookup.specs.Clause.{Entered, Stands, onward, lowered, cleared, Lands, ClauseTable}
use Rattle.lookup.specs.Live.{live_from, live}
use Rattle.lookup.proofs.Lands.{lands_kept, lands_entered, Lowering, lowering, settled, pointed}
use Rattle.lookup.proofs.Live.{live_skip, live_used}

-- words that are all 0, and no number in use
pub table_start : (f p : File) (ws : List ℕ) → ((j : ℕ) → get_or ws j 0 ≡ 0) → ClauseTable f p 1 ws
table_start f p ws z =
    record {
      stands = λ n h. let e = z n in absurd (omega arith);
      passed = λ n k h a b. let e = z k in omega arith;
      bounded = λ n h. let e = z n in omega arith;
      unused = λ n h. z n;
      lands = λ n a b h. absurd (omega arith);
    }

-- words of which each is as in another table
table_same : {f p : File} {next : ℕ} {ws us : List ℕ} → ((n : ℕ) → get_or us n 0 ≡ get_or ws n 0) → ClauseTable f p next ws → ClauseTable f p next us
table_same same t =
    record {
      stands = λ n h. rw (same n) (t.stands n (rw (same n) at h));
      passed = λ n k h a b. let x = same n in let y = same k in let r = t.passed n k (omega arith) a (omega arith) in omega arith;
      bounded = λ n h. let x = same n in let r = t.bounded n (omega arith) in omega arith;
      unused = λ n h. same n ∙ t.unused n h;
      lands = λ n a b h. lands_kept (same n) (same _) (t.lands n a b (rw (same n) at h));
    }

get_or_used : (next : ℕ) (ws : List ℕ) → ((n : ℕ) → next ≤ n → get_or ws n 0 ≡ 0) → (n : ℕ) → get_or (take next ws) n 0 ≡ get_or ws n 0
get_or_used zero ws z n = sym (z n (omega arith))
get_or_used (suc next) [] z n = refl
get_or_used (suc next) (w ∷ ws) z zero = refl
get_or_used (suc next) (w ∷ ws) z (suc n) = get_or_used next ws (λ k h. z (suc k) (omega arith)) n

-- the words of the numbers in use, as the code cuts them out: the same clauses are live, and they are a table of their own
module _ {f p : File} {next : ℕ} {ws : List ℕ} (t : ClauseTable f p next ws) where
  all : next - 0 ≡ next
  all = omega arith

  pub used_live : live f p (take (next - 0) ws) ≡ live f p ws
  used_live = rw all (live_used f p next ws t.unused)

  pub used_length : next ≤ length ws → length (take (next - 0) ws) ≡ next
  used_length h = rw all (length-take-le next ws h)

  pub used_table : next ≤ length ws → ClauseTable f p (length (take (next - 0) ws)) (take (next - 0) ws)
  used_table h = rw (all, length-take-le next ws h) (table_same (get_or_used next ws t.unused) t)

-- a clause entered under the next number
pub table_entered : {f p : File} {n : ℕ} {ws : List ℕ} → ClauseTable f p n ws → n < length ws → (w : ℕ) → Entered w → Stands f p w
    → ClauseTable f p (n + 1) (set ws n w)
table_entered {f} {p} {n} {ws} t h w in_use stands =
    record {
      stands = λ k b. word_stands k b (ℕ_discrete k n);
      passed = λ i k low a b. not_passed i k low a b (ℕ_discrete i n);
      bounded = λ k low. within k low (ℕ_discrete k n);
      unused = λ k b. let ne : k ≢ n = omega arith in get_or-set_other ws n k w 0 ne ∙ t.unused k (omega arith);
      lands = λ k a b low. landing k a b low (ℕ_discrete k n);
    }
  where
    here : get_or (set ws n w) n 0 ≡ w
    here = get_or-set_same ws n w 0 h

    word_stands : (k : ℕ) → Entered (get_or (set ws n w) k 0) → Dec (k ≡ n) → Stands f p (get_or (set ws n w) k 0)
    word_stands k b (yes e) = rw (e, here) stands
    word_stands k b (no ne) = rw (get_or-set_other ws n k w 0 ne) (t.stands k (rw (get_or-set_other ws n k w 0 ne) at b))

    not_passed : (i k : ℕ) → get_or (set ws n w) i 0 < 1048576 → i ≤ k → k < get_or (set ws n w) i 0 → Dec (i ≡ n) → get_or (set ws n w) k 0 < 1048576
    not_passed i k low a b (yes e) = let q : get_or (set ws n w) i 0 ≡ w = rw e here in absurd (omega arith)
    not_passed i k low a b (no ne) =
        let q : get_or (set ws n w) i 0 ≡ get_or ws i 0 = get_or-set_other ws n i w 0 ne in
        let r = t.bounded i (omega arith) in
        let other : k ≢ n = omega arith in
        let x : get_or (set ws n w) k 0 ≡ get_or ws k 0 = get_or-set_other ws n k w 0 other in
        let y = t.passed i k (omega arith) a (omega arith) in
        omega arith

    within : (k : ℕ) → get_or (set ws n w) k 0 < 1048576 → Dec (k ≡ n) → get_or (set ws n w) k 0 ≤ n + 1
    within k low (yes e) = let q : get_or (set ws n w) k 0 ≡ w = rw e here in absurd (omega arith)
    within k low (no ne) =
        let q : get_or (set ws n w) k 0 ≡ get_or ws k 0 = get_or-set_other ws n k w 0 ne in
        let r = t.bounded k (omega arith) in
        omega arith

    landing : (k : ℕ) → 1 ≤ k → k < n + 1 → get_or (set ws n w) k 0 < 1048576 → Dec (k ≡ n) → Lands (n + 1) (set ws n w) k
    landing k a b low (yes e) = let q : get_or (set ws n w) k 0 ≡ w = rw e here in absurd (omega arith)
    landing k a b low (no ne) =
        lands_entered k w h in_use ne (t.lands k a (omega arith) (rw (get_or-set_other ws n k w 0 ne) at low))

-- where the search goes on: not before the number, not past those in use, past no live one, and at a live one or at next
module _ (ws : List ℕ) (n : ℕ) where
  abbrev further : Bool → ℕ
  further b = elim b [ true ↦ n | false ↦ max n (get_or ws n 0) ]

  pub onward_from : n ≤ onward ws n
  unfolding onward
  onward_from = go (leb 1048576 (get_or ws n 0))
    where
      go : (b : Bool) → n ≤ further b
      go true = omega arith
      go false = omega arith

  module _ {f p : File} {next : ℕ} (t : ClauseTable f p next ws) where
    pub onward_within : n ≤ next → onward ws n ≤ next
    unfolding onward
    onward_within h = go (leb 1048576 (get_or ws n 0)) refl
      where
        go : (b : Bool) → leb 1048576 (get_or ws n 0) ≡ b → further b ≤ next
        go true q = h
        go false q = let w = t.bounded n (leb_no 1048576 (get_or ws n 0) q) in omega arith

    pub onward_passes : (k : ℕ) → n ≤ k → k < onward ws n → get_or ws k 0 < 1048576
    unfolding onward
    onward_passes k a b = go (leb 1048576 (get_or ws n 0)) refl b
      where
        go : (b : Bool) → leb 1048576 (get_or ws n 0) ≡ b → k < further b → get_or ws k 0 < 1048576
        go true q h = absurd (omega arith)
        go false q h = t.passed n k (leb_no 1048576 (get_or ws n 0) q) a (omega arith)

    pub onward_ends : 1 ≤ n → n ≤ next → onward ws n ≢ next → Entered (get_or ws (onward ws n) 0)
    unfolding onward
    onward_ends a h m = go (leb 1048576 (get_or ws n 0)) refl (ℕ_discrete n next) m
      where
        go : (b : Bool) → leb 1048576 (get_or ws n 0) ≡ b → Dec (n ≡ next) → further b ≢ next → Entered (get_or ws (further b) 0)
        go true q d m = leb_yes 1048576 (get_or ws n 0) q
        go false q (yes e) m = let z = t.unused n (omega arith) in absurd (m (omega arith))
        go false q (no ne) m =
            let l = t.lands n a (omega arith) (leb_no 1048576 (get_or ws n 0) q) in
            let x = l.above in
            let e : max n (get_or ws n 0) ≡ get_or ws n 0 = omega arith in
            rw e (l.ends (λ z. m (e ∙ z)))

-- n and those right below it that are not live, where no number between n and e is
lowered_table : {f p : File} {next : ℕ} (n e : ℕ) (ws : List ℕ) → Lowering f p next (suc n) ws → n < length ws → n < next → e ≤ next → e < 1048576
    → ((j : ℕ) → n < j → j < e → get_or ws j 0 < 1048576) → n < e → (e ≢ next → Entered (get_or ws e 0)) → ClauseTable f p next (lowered (set ws n e) n e)
unfolding lowered
lowered_table zero e ws t h below last low between up end =
    settled (pointed 0 e t h below last low between up end) (λ k r. let x = r.below in absurd (omega arith))
lowered_table {f} {p} {next} (suc n) e ws t h below last low between up end =
    go (leb 1048576 (get_or us n 0)) refl
    (lowered_table n e us here (omega (arith, length-set ws (suc n) e)) (omega arith) last low (λ j a b. from j a b (ℕ_discrete j (suc n)))
    (omega arith) (λ m. rw (get_or-set_other ws (suc n) e e 0 ne) (end m)))
  where
    us : List ℕ
    us = set ws (suc n) e

    ne : e ≢ suc n
    ne = omega arith

    here : Lowering f p next (suc n) us
    here = pointed (suc n) e t h below last low between up end

    from : (j : ℕ) → n < j → j < e → Dec (j ≡ suc n) → get_or us j 0 < 1048576
    from j a b (yes z) = rw (z, get_or-set_same ws (suc n) e 0 h) low
    from j a b (no m) = rw (get_or-set_other ws (suc n) j e 0 m) (between j (omega arith) b)

    go : (b : Bool) → leb 1048576 (get_or us n 0) ≡ b → ClauseTable f p next (lowered (set us n e) n e)
        → ClauseTable f p next (elim b [ true ↦ us | false ↦ lowered (set us n e) n e ])
    go true q more =
        let live = leb_yes 1048576 (get_or us n 0) q in
        settled here (λ k r. let x = r.below in let y = r.none n (omega arith) (omega arith) in absurd (omega arith))
    go false q more = more

-- a number in use cleared
pub table_cleared : {f p : File} {next : ℕ} {ws : List ℕ} → ClauseTable f p next ws → (n : ℕ) → n < length ws → n < next → next < 1048576
    → ClauseTable f p next (cleared ws n)
unfolding cleared
table_cleared {f} {p} {next} {ws} t n h below last =
    let up = onward_from ws (n + 1) in
    let upto = onward_within ws (n + 1) t (omega arith) in
    lowered_table n (onward ws (n + 1)) ws (lowering t) h below upto (omega arith) (λ j a b. onward_passes ws (n + 1) t j (omega arith) b) (omega arith)
    (onward_ends ws (n + 1) t (omega arith) (omega arith))

lowered_length : (n e : ℕ) (ws : List ℕ) → length (lowered ws n e) ≡ length ws
unfolding lowered
lowered_length zero e ws = refl
lowered_length (suc n) e ws = go (lowered_length n e (set ws n e)) (leb 1048576 (get_or ws n 0))
  where
    go : length (lowered (set ws n e) n e) ≡ length (set ws n e) → (b : Bool)
        → length {A = ℕ} (elim b [ true ↦ ws | false ↦ lowered (set ws n e) n e ]) ≡ length ws
    go below true = refl
    go below false = below ∙ length-set ws n e

pub cleared_length : (ws : List ℕ) (n : ℕ) → length (cleared ws n) ≡ length ws
unfolding cleared
cleared_length ws n = lowered_length n _ _ ∙ length-set ws n _

-- The live clauses from a number that is not live on are those from where the search goes on.
module _ (f p : File) (ws : List ℕ) where
  none_until : (d k : ℕ) → k + d ≤ length ws → ((j : ℕ) → k ≤ j → j < k + d → get_or ws j 0 < 1048576)
      → live_from f p k (drop k ws) ≡ live_from f p (k + d) (drop (k + d) ws)
  none_until zero k h z = let e : k + 0 ≡ k = omega arith in rw e
  none_until (suc d) k h z =
      let e : k + 1 + d ≡ k + suc d = omega arith in
      live_skip f p ws k (omega arith) (z k (omega arith) (omega arith))
      ∙ rw e at (none_until d (k + 1) (omega arith) (λ j a b. z j (omega arith) (omega arith)))

  pub live_onward : ClauseTable f p (length ws) ws → (k : ℕ) → k < length ws → get_or ws k 0 < 1048576
      → live_from f p k (drop k ws) ≡ live_from f p (onward ws (k + 1)) (drop (onward ws (k + 1)) ws)
  live_onward t k h low =
      let from = onward_from ws (k + 1) in
      let within = onward_within ws (k + 1) t (omega arith) in
      let e : k + (onward ws (k + 1) - k) ≡ onward ws (k + 1) = omega arith in
      rw e at (none_until (onward ws (k + 1) - k) k (omega arith) (λ j a b. between j a (omega arith) (ℕ_discrete j k)))
    where
      between : (j : ℕ) → k ≤ j → j < onward ws (k + 1) → Dec (j ≡ k) → get_or ws j 0 < 1048576
      between j a b (yes e) = rw e low
      between j a b (no ne) = onward_passes ws (k + 1) t j (omega arith) b
