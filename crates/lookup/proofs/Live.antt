-- The live clauses as the table holds them: over the numbers in turn, when a clause is entered, and when one is removed.
-- Assumes nothing.
use Prim.Native.Nat.{ℕ, zero, suc, ◌+◌, ◌≤◌, ◌<◌, max}
use mathlib.Core.Path.{◌≡◌, refl, sym, ap, ◌∙◌}
use mathlib.Core.Logic.{◌≢◌}
use mathlib.Core.Bool.{Bool, true, false, true≢false, false≢true}
use mathlib.Core.List.Memᴰ
use mathlib.Core.List.{List, [], ◌∷◌, ◌++◌}
use native.Mathlib.Omega.{arith}
use native.Mathlib.Numerals.{add-one}
use lib.Dec.{eqb, leb}
use lib.ListN.{length, get_or, set, take, drop, drop_of_length-le}
use lib.Seq.{drop-cons}
use Rattle.paper.specs.declared.Reason.{Reason}
use Rattle.paper.specs.declared.Extent.{Extent}
use Rattle.paper.specs.Atoms.{Clause, Formula, Live}
use Rattle.paper.specs.Files.{File, ok, payload, field, even, codes}
use Rattle.paper.specs.Conditions.{is_in, without}
use Rattle.paper.specs.Refusals.{is_live}
use Rattle.paper.proofs.Lists.{eqb_yes, eqb_no, eqb_same, eqb_other, leb_yes, leb_no, leb_within, leb_beyond}
use Rattle.lookup.specs.Clause.{formula_word, proof_word, Entered, clause_bytes, onward, lowered, cleared}
use Rattle.lookup.specs.Live.{live_from, live, EmptyLive}
use Rattle.lookup.proofs.Clause.{clause_of_formula, clause_of_proof}

-- A loop over the numbers: one that is not live, one that is, and the end.
module _ (f p : File) (ws : List ℕ) (k : ℕ) where
  pub live_skip : k < length ws → get_or ws k 0 < 1048576 → live_from f p k (drop k ws) ≡ live_from f p (k + 1) (drop (k + 1) ws)
  unfolding live_from
  live_skip h e = rw (drop-cons ws k 0 h, add-one) (rw (leb_beyond 1048576 (get_or ws k 0) e, live_from))

  pub live_next : k < length ws → Entered (get_or ws k 0)
      → live_from f p k (drop k ws) ≡ (k, codes (clause_bytes f p (get_or ws k 0))) ∷ live_from f p (k + 1) (drop (k + 1) ws)
  unfolding live_from
  live_next h in_use = rw (drop-cons ws k 0 h, add-one) (rw (leb_within 1048576 (get_or ws k 0) in_use, live_from))

  pub live_end : length ws ≤ k → live_from f p k (drop k ws) ≡ []
  unfolding live_from
  live_end h = rw (drop_of_length-le ws h)

pub live_start : (f p : File) (ws : List ℕ) → live_from f p 0 (drop 0 ws) ≡ live f p ws
unfolding live
live_start f p ws = refl

-- one word in front, not live or live
module _ (f p : File) (k w : ℕ) (ws : List ℕ) where
  head_skip : w < 1048576 → live_from f p k (w ∷ ws) ≡ live_from f p (suc k) ws
  unfolding live_from
  head_skip e = rw (leb_beyond 1048576 w e, live_from)

  head_live : Entered w → live_from f p k (w ∷ ws) ≡ (k, codes (clause_bytes f p w)) ∷ live_from f p (suc k) ws
  unfolding live_from
  head_live in_use = rw (leb_within 1048576 w in_use, live_from)

-- no live clause where every word is 0
none_from : (f p : File) (k : ℕ) (ws : List ℕ) → ((j : ℕ) → get_or ws j 0 ≡ 0) → live_from f p k ws ≡ []
unfolding live_from
none_from f p k [] z = refl
none_from f p k (w ∷ ws) z = let e : w ≡ 0 = z 0 in head_skip f p k w ws (omega arith) ∙ none_from f p (suc k) ws (λ j. z (suc j))

pub live_none : (f p : File) (ws : List ℕ) → ((j : ℕ) → get_or ws j 0 ≡ 0) → live f p ws ≡ []
unfolding live
live_none f p ws z = none_from f p 0 ws z

-- the numbers in use are enough: from n on no word is entered
live_from_used : (f p : File) (k n : ℕ) (ws : List ℕ) → ((j : ℕ) → n ≤ j → get_or ws j 0 ≡ 0) → live_from f p k (take n ws) ≡ live_from f p k ws
unfolding live_from
live_from_used f p k zero ws above = sym (none_from f p k ws (λ j. above j (omega arith)))
live_from_used f p k (suc n) [] above = refl
live_from_used f p k (suc n) (w ∷ ws) above =
    go (live_from_used f p (suc k) n ws (λ j h. above (suc j) (omega arith))) (leb 1048576 w) refl
  where
    go : live_from f p (suc k) (take n ws) ≡ live_from f p (suc k) ws → (b : Bool) → leb 1048576 w ≡ b
        → live_from f p k (w ∷ take n ws) ≡ live_from f p k (w ∷ ws)
    go e false q =
        let z : w < 1048576 = leb_no 1048576 w q in head_skip f p k w (take n ws) z ∙ e ∙ sym (head_skip f p k w ws z)
    go e true q =
        let z : Entered w = leb_yes 1048576 w q in
        head_live f p k w (take n ws) z ∙ ap (λ (F : Formula). (k, codes (clause_bytes f p w)) ∷ F) e ∙ sym (head_live f p k w ws z)

pub live_used : (f p : File) (n : ℕ) (ws : List ℕ) → ((j : ℕ) → n ≤ j → get_or ws j 0 ≡ 0) → live f p (take n ws) ≡ live f p ws
unfolding live
live_used f p n ws above = live_from_used f p 0 n ws above

-- a clause entered at a number at and above which every word is 0 comes last
entered_from : (f p : File) (k n w : ℕ) (ws : List ℕ) → n < length ws → ((j : ℕ) → n ≤ j → get_or ws j 0 ≡ 0) → Entered w
    → live_from f p k (set ws n w) ≡ live_from f p k ws ++ ((k + n, codes (clause_bytes f p w)) ∷ [])
entered_from f p k n w [] h z ne = absurd (omega arith)
entered_from f p k zero w (x ∷ ws) h z ne =
    let here : k + 0 ≡ k = omega arith in
    let rest : live_from f p (suc k) ws ≡ [] = none_from f p (suc k) ws (λ j. z (suc j) (omega arith)) in
    let none : x ≡ 0 = z 0 (omega arith) in
    rw (here, head_live f p k w ws ne, head_skip f p k x ws (omega arith), rest)
entered_from f p k (suc n) w (x ∷ ws) h z ne =
    go (entered_from f p (suc k) n w ws (omega arith) (λ j l. z (suc j) (omega arith)) ne) (leb 1048576 x) refl
  where
    last : Formula
    last = (k + suc n, codes (clause_bytes f p w)) ∷ []

    go : live_from f p (suc k) (set ws n w) ≡ live_from f p (suc k) ws ++ ((suc k + n, codes (clause_bytes f p w)) ∷ []) → (b : Bool) → leb 1048576 x ≡ b
        → live_from f p k (x ∷ set ws n w) ≡ live_from f p k (x ∷ ws) ++ last
    go below false e =
        let z : x < 1048576 = leb_no 1048576 x e in
        let m : suc k + n ≡ k + suc n = omega arith in
        rw (head_skip f p k x (set ws n w) z, head_skip f p k x ws z) (rw m at below)
    go below true e =
        let z : Entered x = leb_yes 1048576 x e in
        let m : suc k + n ≡ k + suc n = omega arith in
        rw (head_live f p k x (set ws n w) z, head_live f p k x ws z) (ap (λ (F : Formula). (k, codes (clause_bytes f p x)) ∷ F) (rw m at below))

module _ (f p : File) (ws : List ℕ) (n w : ℕ) (above : (j : ℕ) → n ≤ j → get_or ws j 0 ≡ 0) where
  pub live_entered : n < length ws → Entered w → live f p (set ws n w) ≡ live f p ws ++ ((n, codes (clause_bytes f p w)) ∷ [])
  unfolding live
  live_entered h ne = let e : 0 + n ≡ n = omega arith in rw e at (entered_from f p 0 n w ws h above ne)

-- one clause in front, named or not
module _ (ns : List ℕ) (D : ℕ × Clause) (F : Formula) where
  without_drop : is_in D.0 ns ≡ true → without ns (D ∷ F) ≡ without ns F
  unfolding without
  without_drop e = rw (e, without)

  without_keep : is_in D.0 ns ≡ false → without ns (D ∷ F) ≡ D ∷ without ns F
  unfolding without
  without_keep e = rw (e, without)

is_in_same : (m n : ℕ) (ns : List ℕ) → m ≡ n → is_in m (n ∷ ns) ≡ true
unfolding is_in
is_in_same m n ns e = rw (eqb_same m n e, is_in)

is_in_other : (m n : ℕ) (ns : List ℕ) → m ≢ n → is_in m (n ∷ ns) ≡ is_in m ns
unfolding is_in
is_in_other m n ns ne = rw (eqb_other m n ne, is_in)

is_in_none : (m : ℕ) → is_in m [] ≡ false
unfolding is_in
is_in_none m = refl

-- the clauses named in a list are removed one after the other
pub without_more : (n : ℕ) (ns : List ℕ) (F : Formula) → without (n ∷ []) (without ns F) ≡ without (n ∷ ns) F
unfolding without
without_more n ns [] = refl
without_more n ns (D ∷ F) = go (without_more n ns F) (eqb D.0 n) refl (is_in D.0 ns) refl
  where
    go : without (n ∷ []) (without ns F) ≡ without (n ∷ ns) F → (b : Bool) → eqb D.0 n ≡ b → (c : Bool) → is_in D.0 ns ≡ c
        → without (n ∷ []) (without ns (D ∷ F)) ≡ without (n ∷ ns) (D ∷ F)
    go below true e true q =
        let same : D.0 ≡ n = eqb_yes D.0 n e in
        rw (without_drop ns D F q, without_drop (n ∷ ns) D F (is_in_same D.0 n ns same)) below
    go below true e false q =
        let same : D.0 ≡ n = eqb_yes D.0 n e in
        rw (
          without_keep ns D F q,
          without_drop (n ∷ []) D (without ns F) (is_in_same D.0 n [] same),
          without_drop (n ∷ ns) D F (is_in_same D.0 n ns same),
        )
        below
    go below false e true q =
        let other : D.0 ≢ n = eqb_no D.0 n e in
        rw (without_drop ns D F q, without_drop (n ∷ ns) D F (is_in_other D.0 n ns other ∙ q)) below
    go below false e false q =
        let other : D.0 ≢ n = eqb_no D.0 n e in
        rw (
          without_keep ns D F q,
          without_keep (n ∷ []) D (without ns F) (is_in_other D.0 n [] other ∙ is_in_none D.0),
          without_keep (n ∷ ns) D F (is_in_other D.0 n ns other ∙ q),
        )
        (ap (λ (G : Formula). D ∷ G) below)

-- no clause from number k on has a lower number
keeps_lower : (f p : File) (k m : ℕ) (ws : List ℕ) → m < k → without (m ∷ []) (live_from f p k ws) ≡ live_from f p k ws
unfolding without live_from
keeps_lower f p k m [] h = refl
keeps_lower f p k m (x ∷ ws) h = go (keeps_lower f p (suc k) m ws (omega arith)) (leb 1048576 x) refl
  where
    go : without (m ∷ []) (live_from f p (suc k) ws) ≡ live_from f p (suc k) ws → (b : Bool) → leb 1048576 x ≡ b
        → without (m ∷ []) (live_from f p k (x ∷ ws)) ≡ live_from f p k (x ∷ ws)
    go below false e = rw (head_skip f p k x ws (leb_no 1048576 x e)) below
    go below true e =
        let other : k ≢ m = omega arith in
        let C : Clause = codes (clause_bytes f p x) in
        let keep = without_keep (m ∷ []) (k, C) (live_from f p (suc k) ws) (is_in_other k m [] other ∙ is_in_none k) in
        rw (head_live f p k x ws (leb_yes 1048576 x e), keep) (ap (λ (F : Formula). (k, C) ∷ F) below)

-- a word that is no longer that of a clause is a clause removed
removed_from : (f p : File) (k n e : ℕ) (ws : List ℕ) → e < 1048576 → live_from f p k (set ws n e) ≡ without ((k + n) ∷ []) (live_from f p k ws)
unfolding live_from without
removed_from f p k n e [] low = refl
removed_from f p k zero e (x ∷ ws) low = go (leb 1048576 x) refl
  where
    here : k + 0 ≡ k
    here = omega arith

    rest : without (k ∷ []) (live_from f p (suc k) ws) ≡ live_from f p (suc k) ws
    rest = keeps_lower f p (suc k) k ws (omega arith)

    go : (b : Bool) → leb 1048576 x ≡ b → live_from f p k (e ∷ ws) ≡ without ((k + 0) ∷ []) (live_from f p k (x ∷ ws))
    go false q = rw (here, head_skip f p k e ws low, head_skip f p k x ws (leb_no 1048576 x q), rest)
    go true q =
        let C : Clause = codes (clause_bytes f p x) in
        let drop_it = without_drop (k ∷ []) (k, C) (live_from f p (suc k) ws) (is_in_same k k [] refl) in
        rw (here, head_skip f p k e ws low, head_live f p k x ws (leb_yes 1048576 x q), drop_it, rest)
removed_from f p k (suc n) e (x ∷ ws) low = go (removed_from f p (suc k) n e ws low) (leb 1048576 x) refl
  where
    number : suc k + n ≡ k + suc n
    number = omega arith

    go : live_from f p (suc k) (set ws n e) ≡ without ((suc k + n) ∷ []) (live_from f p (suc k) ws) → (b : Bool) → leb 1048576 x ≡ b
        → live_from f p k (x ∷ set ws n e) ≡ without ((k + suc n) ∷ []) (live_from f p k (x ∷ ws))
    go below false q =
        let z : x < 1048576 = leb_no 1048576 x q in
        rw (head_skip f p k x (set ws n e) z, head_skip f p k x ws z) (rw number at below)
    go below true q =
        let ne : Entered x = leb_yes 1048576 x q in
        let other : k ≢ k + suc n = omega arith in
        let C : Clause = codes (clause_bytes f p x) in
        let keep = without_keep ((k + suc n) ∷ []) (k, C) (live_from f p (suc k) ws) (is_in_other k (k + suc n) [] other ∙ is_in_none k) in
        rw (head_live f p k x (set ws n e) ne, head_live f p k x ws ne, keep) (ap (λ (F : Formula). (k, C) ∷ F) (rw number at below))

live_removed : (f p : File) (ws : List ℕ) (n e : ℕ) → e < 1048576 → live f p (set ws n e) ≡ without (n ∷ []) (live f p ws)
unfolding live
live_removed f p ws n e low = let z : 0 + n ≡ n = omega arith in rw z at (removed_from f p 0 n e ws low)

-- a word that was not that of a clause, and is not now
same_from : (f p : File) (k n e : ℕ) (ws : List ℕ) → get_or ws n 0 < 1048576 → e < 1048576 → live_from f p k (set ws n e) ≡ live_from f p k ws
same_from f p k n e [] none low = refl
same_from f p k zero e (x ∷ ws) none low = head_skip f p k e ws low ∙ sym (head_skip f p k x ws none)
same_from f p k (suc n) e (x ∷ ws) none low = go (same_from f p (suc k) n e ws none low) (leb 1048576 x) refl
  where
    go : live_from f p (suc k) (set ws n e) ≡ live_from f p (suc k) ws → (b : Bool) → leb 1048576 x ≡ b
        → live_from f p k (x ∷ set ws n e) ≡ live_from f p k (x ∷ ws)
    go below false q =
        let z : x < 1048576 = leb_no 1048576 x q in head_skip f p k x (set ws n e) z ∙ below ∙ sym (head_skip f p k x ws z)
    go below true q =
        let z : Entered x = leb_yes 1048576 x q in
        head_live f p k x (set ws n e) z ∙ ap (λ (F : Formula). (k, codes (clause_bytes f p x)) ∷ F) below ∙ sym (head_live f p k x ws z)

lowered_live : (f p : File) (n e : ℕ) (ws : List ℕ) → e < 1048576 → live f p (lowered ws n e) ≡ live f p ws
unfolding lowered live
lowered_live f p zero e ws low = refl
lowered_live f p (suc n) e ws low = go (lowered_live f p n e (set ws n e) low) (leb 1048576 (get_or ws n 0)) refl
  where
    go : live f p (lowered (set ws n e) n e) ≡ live f p (set ws n e) → (b : Bool) → leb 1048576 (get_or ws n 0) ≡ b
        → live f p (elim b [ true ↦ ws | false ↦ lowered (set ws n e) n e ]) ≡ live f p ws
    go below true q = refl
    go below false q = below ∙ same_from f p 0 n e ws (leb_no 1048576 (get_or ws n 0) q) low

-- the number from which to go on is not that of a clause's word
pub onward_low : (ws : List ℕ) (n : ℕ) → n < 1048576 → onward ws n < 1048576
unfolding onward
onward_low ws n h = go (leb 1048576 (get_or ws n 0)) refl
  where
    go : (b : Bool) → leb 1048576 (get_or ws n 0) ≡ b → elim b [ true ↦ n | false ↦ max n (get_or ws n 0) ] < 1048576
    go true q = h
    go false q = let w = leb_no 1048576 (get_or ws n 0) q in omega arith

-- a number cleared is a clause removed
pub live_cleared : (f p : File) (ws : List ℕ) (n : ℕ) → n < 65536 → live f p (cleared ws n) ≡ without (n ∷ []) (live f p ws)
unfolding cleared
live_cleared f p ws n h =
    let low : onward ws (n + 1) < 1048576 = onward_low ws (n + 1) (omega arith) in
    lowered_live f p n (onward ws (n + 1)) (set ws n (onward ws (n + 1))) low ∙ live_removed f p ws n (onward ws (n + 1)) low

-- a number is live where its word is that of a clause
not_lower : (f p : File) (k m : ℕ) (ws : List ℕ) → m < k → is_live m (live_from f p k ws) ≡ false
unfolding is_live live_from
not_lower f p k m [] h = refl
not_lower f p k m (x ∷ ws) h = go (not_lower f p (suc k) m ws (omega arith)) (leb 1048576 x) refl
  where
    go : is_live m (live_from f p (suc k) ws) ≡ false → (b : Bool) → leb 1048576 x ≡ b → is_live m (live_from f p k (x ∷ ws)) ≡ false
    go below false e = rw (head_skip f p k x ws (leb_no 1048576 x e)) below
    go below true e =
        let other : m ≢ k = omega arith in
        rw (head_live f p k x ws (leb_yes 1048576 x e), eqb_other m k other) below

is_live_from : (f p : File) (k n : ℕ) (ws : List ℕ) → is_live (k + n) (live_from f p k ws) ≡ leb 1048576 (get_or ws n 0)
unfolding is_live live_from
is_live_from f p k n [] = refl
is_live_from f p k zero (x ∷ ws) = go (leb 1048576 x) refl
  where
    here : k + 0 ≡ k
    here = omega arith

    go : (b : Bool) → leb 1048576 x ≡ b → is_live (k + 0) (live_from f p k (x ∷ ws)) ≡ b
    go false e = rw (here, head_skip f p k x ws (leb_no 1048576 x e)) (not_lower f p (suc k) k ws (omega arith))
    go true e = rw (here, head_live f p k x ws (leb_yes 1048576 x e), eqb_same k k refl)
is_live_from f p k (suc n) (x ∷ ws) = go (is_live_from f p (suc k) n ws) (leb 1048576 x) refl
  where
    number : suc k + n ≡ k + suc n
    number = omega arith

    go : is_live (suc k + n) (live_from f p (suc k) ws) ≡ leb 1048576 (get_or ws n 0) → (b : Bool) → leb 1048576 x ≡ b
        → is_live (k + suc n) (live_from f p k (x ∷ ws)) ≡ leb 1048576 (get_or ws n 0)
    go below false e = rw (head_skip f p k x ws (leb_no 1048576 x e)) (rw number at below)
    go below true e =
        let other : k + suc n ≢ k = omega arith in
        rw (head_live f p k x ws (leb_yes 1048576 x e), eqb_other (k + suc n) k other) (rw number at below)

pub is_live_word : (f p : File) (ws : List ℕ) (n : ℕ) → is_live n (live f p ws) ≡ leb 1048576 (get_or ws n 0)
unfolding live
is_live_word f p ws n = let e : 0 + n ≡ n = omega arith in rw e at (is_live_from f p 0 n ws)

-- What is live: a number whose word is that of a clause, with that clause.
pub record Word (f p : File) (ws : List ℕ) (n : ℕ) (D : Clause) : Type 0 where
  pub within : n < length ws
  pub entered : Entered (get_or ws n 0)
  pub clause : D ≡ codes (clause_bytes f p (get_or ws n 0))

out_from : (f p : File) (k m : ℕ) (D : Clause) (ws : List ℕ) → Live (live_from f p k ws) m D → (n : ℕ) × (m ≡ k + n) × Word f p ws n D
unfolding live_from
out_from f p k m D [] q = elim q [ ]
out_from f p k m D (x ∷ ws) q = go (λ r. out_from f p (suc k) m D ws r) (leb 1048576 x) refl q
  where
    tail : (n : ℕ) × (m ≡ suc k + n) × Word f p ws n D → (n : ℕ) × (m ≡ k + n) × Word f p (x ∷ ws) n D
    tail r =
        let w = r.2 in
        let e : m ≡ suc k + r.0 = r.1 in
        (suc r.0, omega arith, record { within = let h = w.within in omega arith; entered = w.entered; clause = w.clause })

    head : Entered x → ◌≡◌ {A = ℕ × Clause} (m, D) (k, codes (clause_bytes f p x)) → (n : ℕ) × (m ≡ k + n) × Word f p (x ∷ ws) n D
    head ne e =
        let number : m ≡ k = ap (λ (r : ℕ × Clause). r.0) e in
        (0, omega arith, record { within = omega arith; entered = ne; clause = ap (λ (r : ℕ × Clause). r.1) e })

    go : (Live (live_from f p (suc k) ws) m D → (n : ℕ) × (m ≡ suc k + n) × Word f p ws n D) → (b : Bool) → leb 1048576 x ≡ b
        → Live (elim b [ true ↦ (k, codes (clause_bytes f p x)) ∷ live_from f p (suc k) ws | false ↦ live_from f p (suc k) ws ]) m D
        → (n : ℕ) × (m ≡ k + n) × Word f p (x ∷ ws) n D
    go below false e q = tail (below q)
    go below true e (Memᴰ.head r) = head (leb_yes 1048576 x e) r
    go below true e (Memᴰ.tail r) = tail (below r)

pub live_out : (f p : File) (ws : List ℕ) {n : ℕ} {D : Clause} → Live (live f p ws) n D → Word f p ws n D
unfolding live
live_out f p ws {n} {D} q =
    let r = out_from f p 0 n D ws q in
    let e : n ≡ r.0 = r.1 ∙ omega arith in
    rw e r.2

in_from : (f p : File) (k n : ℕ) (ws : List ℕ) → n < length ws → Entered (get_or ws n 0) → Live (live_from f p k ws) (k + n) (codes (clause_bytes f p (get_or ws n 0)))
in_from f p k n [] h ne = absurd (omega arith)
in_from f p k zero (x ∷ ws) h ne = let e : k + 0 ≡ k = omega arith in rw (e, head_live f p k x ws ne) (Memᴰ.head refl)
in_from f p k (suc n) (x ∷ ws) h ne = go (in_from f p (suc k) n ws (omega arith) ne) (leb 1048576 x) refl
  where
    number : suc k + n ≡ k + suc n
    number = omega arith

    go : Live (live_from f p (suc k) ws) (suc k + n) (codes (clause_bytes f p (get_or ws n 0))) → (b : Bool) → leb 1048576 x ≡ b
        → Live (live_from f p k (x ∷ ws)) (k + suc n) (codes (clause_bytes f p (get_or ws n 0)))
    go below false e = rw (head_skip f p k x ws (leb_no 1048576 x e)) (rw number at below)
    go below true e = rw (head_live f p k x ws (leb_yes 1048576 x e)) (Memᴰ.tail (rw number at below))

pub live_in : (f p : File) (ws : List ℕ) {n : ℕ} {D : Clause} → Word f p ws n D → Live (live f p ws) n D
unfolding live
live_in f p ws {n} {D} w =
    let e : 0 + n ≡ n = omega arith in
    rw w.clause (rw e at (in_from f p 0 n ws w.within w.entered))

-- a clause of the formula, or of the proof, entered as the paper's reading finds it
module _ (why : Reason) (tag : ℕ) (f p : File) (at : ℕ) (e : Extent) (small : at < 1048576) (ws : List ℕ) (n : ℕ) (above : (j : ℕ) → n ≤ j → get_or ws j 0 ≡ 0) (h : n < length ws) where
  pub formula_entered : field why tag even f at ≡ ok e → live f p (set ws n (formula_word at)) ≡ live f p ws ++ ((n, codes (payload f e)) ∷ [])
  formula_entered q = rw (← clause_of_formula why tag f p at e small q) (live_entered f p ws n (formula_word at) above h (omega arith))

  pub proof_entered : field why tag even p at ≡ ok e → live f p (set ws n (proof_word at)) ≡ live f p ws ++ ((n, codes (payload p e)) ∷ [])
  proof_entered q = rw (← clause_of_proof why tag f p at e small q) (live_entered f p ws n (proof_word at) above h (omega arith))

-- a clause is empty where its payload has fewer than two bytes
pub codes_none : (b : List ℕ) → length b < 2 → codes b ≡ []
unfolding codes
codes_none [] h = refl
codes_none (x ∷ []) h = refl
codes_none (x ∷ y ∷ b) h = absurd (omega arith)

pub codes_some : (b : List ℕ) → 2 ≤ length b → codes b ≢ []
unfolding codes
codes_some [] h e = absurd (omega arith)
codes_some (x ∷ []) h e = absurd (omega arith)
codes_some (x ∷ y ∷ b) h e = let z : ◌≡◌ {A = ℕ} 0 1 = cc in absurd (omega arith)

-- the search for an empty clause: a word that stands for none
abbrev pub NotEmpty : File → File → ℕ → Type 0
NotEmpty f p w = Entered w → 2 ≤ length (clause_bytes f p w)

module _ (f p : File) (ws : List ℕ) where
  pub empty_found : (n : ℕ) → n < length ws → Entered (get_or ws n 0) → (b : List ℕ) → b ≡ clause_bytes f p (get_or ws n 0) → length b < 2 → EmptyLive f p ws true
  empty_found n h ne b q short = record { some = λ e. (n, live_in f p ws word); none = λ e. absurd (true≢false e) }
    where
      word : Word f p ws n []
      word = record { within = h; entered = ne; clause = sym (codes_none (clause_bytes f p (get_or ws n 0)) (rw q at short)) }

  pub empty_nowhere : ((k : ℕ) → k < length ws → NotEmpty f p (get_or ws k 0)) → EmptyLive f p ws false
  empty_nowhere all = record { some = λ e. absurd (false≢true e); none = λ e n q. no_word n (live_out f p ws q) }
    where
      no_word : (n : ℕ) → Word f p ws n [] → ⊥
      no_word n w = codes_some (clause_bytes f p (get_or ws n 0)) (all n w.within w.entered) (sym w.clause)
