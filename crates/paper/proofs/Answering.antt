-- Demands 1 and 2 of the definition itself: every call has an answer, and only one; and how it is computed.
-- Assumes nothing.
use Prim.Native.Nat.{ℕ, zero, suc, ◌-◌, ◌≤◌, ◌<◌}
use mathlib.Core.Path.{◌≡◌, refl, sym, ap, subst}
use mathlib.Core.Logic.{◌⊎◌, inl, inr}
use mathlib.Core.Bool.{Bool, true, false, ◌||◌, true≢false, false≢true}
use mathlib.Core.List.Memᴰ
use mathlib.Core.List.{[], ◌∷◌}
use native.Mathlib.Omega.{arith}
use lib.Dec.{leb, ltb}
use lib.ListN.{length}
use Rattle.paper.specs.declared.Reason.TheVariants.{WorkShort, FileLong}
use Rattle.paper.specs.declared.Verdict.{Verdict}
use Rattle.paper.specs.declared.Verdict.TheVariants.{Refuted, Held}
use Rattle.paper.specs.Atoms.{Clause, Formula, Live}
use Rattle.paper.specs.Files.{File, Read, ok, bad, Step}
use Rattle.paper.specs.Refusals.{read_formula, read_step}
use Rattle.paper.specs.Answers.{refused, Outcome, taken, stops, Judged, Steps, refuted, held, unread, judged, goes_on, Within, Answer, work_short, file_long, formula_bad, proof_judged}
use Rattle.paper.proofs.Lists.{leb_yes, leb_no, or_yes, or_no}
use Rattle.paper.specs.Valid.{Kept}
use Rattle.paper.proofs.Reading.{Then, StepWasRead, read_step_seen, FormulaWasRead, read_formula_kept}
use Rattle.paper.proofs.Judging.{take_step, take_step_judged, judged_once, judged_kept}

-- 1. Never two answers.
pub same_read : {x : Read (Step × ℕ)} {t t' : Step} {later later' : ℕ} → x ≡ ok (t, later) → x ≡ ok (t', later') → (t ≡ t') × (later ≡ later')
same_read {t} {t'} {later} {later'} a b =
    let e : ◌≡◌ {A = Step × ℕ} (t, later) (t', later') = cc in
    (ap (λ (y : Step × ℕ). y.0) e, ap (λ (y : Step × ℕ). y.1) e)

pub steps_once : (proof : File) (vars : ℕ) {F : Formula} {next done at : ℕ} {v w : Verdict} → Steps proof vars F next done at v
    → Steps proof vars F next done at w → v ≡ w
steps_once proof vars (refuted a b) (refuted c d) = refl
steps_once proof vars (refuted {n} a b) (held c d) = absurd (d n b)
steps_once proof vars (refuted a b) (unread c d) = absurd (omega arith)
steps_once proof vars (refuted a b) (judged c d e) = absurd (omega arith)
steps_once proof vars (refuted a b) (goes_on c d e f) = absurd (omega arith)
steps_once proof vars (held a b) (refuted {n} c d) = absurd (b n d)
steps_once proof vars (held a b) (held c d) = refl
steps_once proof vars (held a b) (unread c d) = absurd (omega arith)
steps_once proof vars (held a b) (judged c d e) = absurd (omega arith)
steps_once proof vars (held a b) (goes_on c d e f) = absurd (omega arith)
steps_once proof vars (unread a b) (refuted c d) = absurd (omega arith)
steps_once proof vars (unread a b) (held c d) = absurd (omega arith)
steps_once proof vars (unread {done} {r = r} {p = p} a b) (unread {r = r'} {p = p'} c d) = cc
steps_once proof vars (unread a b) (judged c d e) = let z : ◌≡◌ {A = ℕ} 0 1 = cc in absurd (omega arith)
steps_once proof vars (unread a b) (goes_on c d e f) = let z : ◌≡◌ {A = ℕ} 0 1 = cc in absurd (omega arith)
steps_once proof vars (judged a b j) (refuted c d) = absurd (omega arith)
steps_once proof vars (judged a b j) (held c d) = absurd (omega arith)
steps_once proof vars (judged a b j) (unread c d) = let z : ◌≡◌ {A = ℕ} 0 1 = cc in absurd (omega arith)
steps_once proof vars (judged {F} {next} {t = t} {r = r} {p = p} a b j) (judged {t = t'} {r = r'} {p = p'} c d i) =
    let e = (same_read b d).0 in
    let q = judged_once F next t (stops r p) (stops r' p') j (subst (λ (x : Step). Judged F next x (stops r' p')) (sym e) i) in
    cc
steps_once proof vars (judged {F} {next} {t = t} {r = r} {p = p} a b j) (goes_on {G = G} {m = m} {t = t'} c d i f) =
    let e = (same_read b d).0 in
    let q = judged_once F next t (stops r p) (taken G m) j (subst (λ (x : Step). Judged F next x (taken G m)) (sym e) i) in
    let z : ◌≡◌ {A = ℕ} 0 1 = cc in absurd (omega arith)
steps_once proof vars (goes_on a b j x) (refuted c d) = absurd (omega arith)
steps_once proof vars (goes_on a b j x) (held c d) = absurd (omega arith)
steps_once proof vars (goes_on a b j x) (unread c d) = let z : ◌≡◌ {A = ℕ} 0 1 = cc in absurd (omega arith)
steps_once proof vars (goes_on {F} {G} {next} {m} {t = t} a b j x) (judged {t = t'} {r = r'} {p = p'} c d i) =
    let e = (same_read b d).0 in
    let q = judged_once F next t (taken G m) (stops r' p') j (subst (λ (y : Step). Judged F next y (stops r' p')) (sym e) i) in
    let z : ◌≡◌ {A = ℕ} 0 1 = cc in absurd (omega arith)
steps_once proof vars {v = v} {w = w} (goes_on {F} {G} {next} {m} {done} {at} {later} {t} a b j x) (goes_on {G = G'} {m = m'} {later = later'} {t = t'} c d i y) =
    let same = same_read b d in
    let e = same.0 in
    let l = same.1 in
    let q = judged_once F next t (taken G m) (taken G' m') j (subst (λ (z : Step). Judged F next z (taken G' m')) (sym e) i) in
    let g : G ≡ G' = cc in
    let n : m ≡ m' = cc in
    steps_once proof vars x
    (subst (λ (z : Formula). Steps proof vars z m (suc done) later w) (sym g)
    (subst (λ (z : ℕ). Steps proof vars G' z (suc done) later w) (sym n)
    (subst (λ (z : ℕ). Steps proof vars G' m' (suc done) z w) (sym l) y)))

short : {words bytes : ℕ} → (words < 16384) ⊎ (bytes < 8192) → 16384 ≤ words → 8192 ≤ bytes → ⊥
short (inl h) a b = omega arith
short (inr h) a b = omega arith

long : {words bytes : ℕ} {formula proof : File} → (1048576 < length formula) ⊎ (1048576 < length proof) → Within words bytes formula proof → ⊥
long (inl h) w = omega (arith, w.formula_short)
long (inr h) w = omega (arith, w.proof_short)

pub answer_once : (words bytes : ℕ) (formula proof : File) (v w : Verdict) → Answer words bytes formula proof v → Answer words bytes formula proof w → v ≡ w
answer_once words bytes formula proof v w (work_short a) (work_short b) = refl
answer_once words bytes formula proof v w (work_short a) (file_long b c d) = absurd (short a b c)
answer_once words bytes formula proof v w (work_short a) (formula_bad b c) = absurd (short a b.words_enough b.bytes_enough)
answer_once words bytes formula proof v w (work_short a) (proof_judged b c d) = absurd (short a b.words_enough b.bytes_enough)
answer_once words bytes formula proof v w (file_long a b c) (work_short d) = absurd (short d a b)
answer_once words bytes formula proof v w (file_long a b c) (file_long d e f) = refl
answer_once words bytes formula proof v w (file_long a b c) (formula_bad d e) = absurd (long c d)
answer_once words bytes formula proof v w (file_long a b c) (proof_judged d e f) = absurd (long c d)
answer_once words bytes formula proof v w (formula_bad a b) (work_short c) = absurd (short c a.words_enough a.bytes_enough)
answer_once words bytes formula proof v w (formula_bad a b) (file_long c d e) = absurd (long e a)
answer_once words bytes formula proof v w (formula_bad {r} {p} a b) (formula_bad {r = r'} {p = p'} c d) = cc
answer_once words bytes formula proof v w (formula_bad a b) (proof_judged c d e) = let z : ◌≡◌ {A = ℕ} 0 1 = cc in absurd (omega arith)
answer_once words bytes formula proof v w (proof_judged a b c) (work_short d) = absurd (short d a.words_enough a.bytes_enough)
answer_once words bytes formula proof v w (proof_judged a b c) (file_long d e f) = absurd (long f a)
answer_once words bytes formula proof v w (proof_judged a b c) (formula_bad d e) = let z : ◌≡◌ {A = ℕ} 0 1 = cc in absurd (omega arith)
answer_once words bytes formula proof v w (proof_judged {vars} {F} {next} a b x) (proof_judged {vars = vars'} {F = F'} {next = next'} c d y) =
    let e : ◌≡◌ {A = ℕ × Formula × ℕ} (vars, F, next) (vars', F', next') = cc in
    steps_once proof vars x (subst (λ (z : ℕ × Formula × ℕ). Steps proof z.0 z.1 z.2 0 0 w) (sym e) y)

-- 2. Always one answer. It is computed: the first fault, or what is live at the end.
unfoldable pub empty? : Formula → Bool
empty? [] = false
empty? ((n, []) ∷ F) = true
empty? ((n, l ∷ D) ∷ F) = empty? F

pub empty_yes : (F : Formula) → empty? F ≡ true → (n : ℕ) × Live F n []
unfolding empty?
empty_yes [] e = absurd (false≢true e)
empty_yes ((n, []) ∷ F) e = (n, Memᴰ.head refl)
empty_yes ((n, l ∷ D) ∷ F) e = let r = empty_yes F e in (r.0, Memᴰ.tail r.1)

pub empty_no : (F : Formula) → empty? F ≡ false → (n : ℕ) → ¬ (Live F n [])
unfolding empty?
empty_no [] e n m = elim m [ ]
empty_no ((k, []) ∷ F) e n m = true≢false e
empty_no ((k, l ∷ D) ∷ F) e n (Memᴰ.head p) = let q = ap (λ (r : ℕ × Clause). length r.1) p in omega arith
empty_no ((k, l ∷ D) ∷ F) e n (Memᴰ.tail m) = empty_no F e n m

unfoldable pub at_end : Formula → ℕ → Verdict
at_end F done = elim (empty? F) [ true ↦ Refuted done | false ↦ Held done ]

-- what follows a step that was read, and one that was judged
unfoldable pub on_read : (Step → ℕ → Verdict) → ℕ → Read (Step × ℕ) → Verdict
on_read more done (ok x) = more x.0 x.1
on_read more done (bad r p) = refused r (suc done) p

unfoldable pub on_outcome : (Formula → ℕ → Verdict) → ℕ → Outcome → Verdict
on_outcome more done (taken G m) = more G m
on_outcome more done (stops r p) = refused r (suc done) p

-- the steps from a place on, with fuel for each; the fuel is never used up
unfoldable pub steps : ℕ → File → ℕ → Formula → ℕ → ℕ → ℕ → Verdict
steps zero proof vars F next done at = Held done
steps (suc fuel) proof vars F next done at =
    elim (leb (length proof) at) [
      | true ↦ at_end F done
      | false ↦ on_read
          (λ t later. on_outcome (λ G m. steps fuel proof vars G m (suc done) later) done (take_step vars F next t))
          done
          (read_step proof vars F next at)
    ]

unfoldable pub on_formula : File → Read (ℕ × Formula × ℕ) → Verdict
on_formula proof (ok x) = steps (suc (length proof)) proof x.0 x.1 x.2 0 0
on_formula proof (bad r p) = refused r 0 p

unfoldable pub answer : ℕ → ℕ → File → File → Verdict
answer words bytes formula proof =
    elim (ltb words 16384 || ltb bytes 8192) [
      | true ↦ refused WorkShort 0 0
      | false ↦ elim (ltb 1048576 (length formula) || ltb 1048576 (length proof)) [
        | true ↦ refused FileLong 0 0
        | false ↦ on_formula proof (read_formula formula)
      ]
    ]

at_end_right : (proof : File) (vars : ℕ) (F : Formula) (next done at : ℕ) → length proof ≤ at → Steps proof vars F next done at (at_end F done)
unfolding at_end
at_end_right proof vars F next done at h = go (empty? F) refl
  where
    go : (b : Bool) → empty? F ≡ b → Steps proof vars F next done at (elim b [ true ↦ Refuted done | false ↦ Held done ])
    go true e = refuted {n = (empty_yes F e).0} h (empty_yes F e).1
    go false e = held h (empty_no F e)

pub steps_right : (fuel : ℕ) (proof : File) (vars : ℕ) (F : Formula) (next done at : ℕ) → 1 ≤ next → Kept vars next F → length proof - at < fuel
    → Steps proof vars F next done at (steps fuel proof vars F next done at)
unfolding steps on_read on_outcome
steps_right zero proof vars F next done at one k h = absurd (omega arith)
steps_right (suc fuel) proof vars F next done at one k h = go (leb (length proof) at) refl (λ G m later. steps_right fuel proof vars G m (suc done) later)
  where
    More : Type 0
    More = (G : Formula) (m later : ℕ) → 1 ≤ m → Kept vars m G → length proof - later < fuel
        → Steps proof vars G m (suc done) later (steps fuel proof vars G m (suc done) later)

    on_judged : More → at < length proof → (t : Step) (later : ℕ) → read_step proof vars F next at ≡ ok (t, later) → StepWasRead proof vars F next at t later
        → (o : Outcome) → Judged F next t o
        → Steps proof vars F next done at (on_outcome (λ G m. steps fuel proof vars G m (suc done) later) done o)
    on_judged more less t later e s (stops r p) j = judged less e j
    on_judged more less t later e s (taken G m) j =
        let g = judged_kept vars F next t G m one k s.seen j in
        goes_on less e j (more G m later g.0 g.1 (omega (arith, s.further, s.inside)))

    on_step : More → at < length proof → (x : Read (Step × ℕ)) → read_step proof vars F next at ≡ x
        → Then (λ (y : Step × ℕ). StepWasRead proof vars F next at y.0 y.1) x
        → Steps proof vars F next done at (on_read
        (λ t later. on_outcome (λ G m. steps fuel proof vars G m (suc done) later) done (take_step vars F next t)) done x)
    on_step more less (bad r p) e s = unread less e
    on_step more less (ok x) e s =
        on_judged more less x.0 x.1 e s (take_step vars F next x.0)
        (take_step_judged vars F k.valid k.rising next x.0 s.seen)

    go : (b : Bool) → leb (length proof) at ≡ b → More → Steps proof vars F next done at (elim b [
      | true ↦ at_end F done
      | false ↦ on_read
          (λ t later. on_outcome (λ G m. steps fuel proof vars G m (suc done) later) done (take_step vars F next t))
          done
          (read_step proof vars F next at)
    ])
    go true e more = at_end_right proof vars F next done at (leb_yes (length proof) at e)
    go false e more = on_step more (leb_no (length proof) at e) (read_step proof vars F next at) refl (read_step_seen proof vars F next at)

on_formula_right : (words bytes : ℕ) (formula proof : File) → Within words bytes formula proof
    → Answer words bytes formula proof (on_formula proof (read_formula formula))
unfolding on_formula
on_formula_right words bytes formula proof w = go (read_formula formula) refl (read_formula_kept formula)
  where
    go : (x : Read (ℕ × Formula × ℕ)) → read_formula formula ≡ x
        → Then (λ (y : ℕ × Formula × ℕ). FormulaWasRead y.0 y.1 y.2) x → Answer words bytes formula proof (on_formula proof x)
    go (bad r p) e k = formula_bad w e
    go (ok x) e k =
        proof_judged w e (steps_right (suc (length proof)) proof x.0 x.1 x.2 0 0 k.first k.kept (omega arith))

pub answer_right : (words bytes : ℕ) (formula proof : File) → Answer words bytes formula proof (answer words bytes formula proof)
unfolding answer
answer_right words bytes formula proof =
    go (ltb words 16384 || ltb bytes 8192) refl (ltb 1048576 (length formula) || ltb 1048576 (length proof)) refl
  where
    tested : (a b c d : ℕ) → (ltb a b ≡ true) ⊎ (ltb c d ≡ true) → (a < b) ⊎ (c < d)
    tested a b c d (inl h) = inl (leb_yes _ _ h)
    tested a b c d (inr h) = inr (leb_yes _ _ h)

    go : (x : Bool) → (ltb words 16384 || ltb bytes 8192) ≡ x → (y : Bool) → (ltb 1048576 (length formula) || ltb 1048576 (length proof)) ≡ y
        → Answer words bytes formula proof (elim x [
          | true ↦ refused WorkShort 0 0
          | false ↦ elim y [ true ↦ refused FileLong 0 0 | false ↦ on_formula proof (read_formula formula) ]
        ])
    go true e y f = work_short (tested words 16384 bytes 8192 (or_yes (ltb words 16384) (ltb bytes 8192) e))
    go false e true f =
        let n = or_no (ltb words 16384) (ltb bytes 8192) e in
        let a = leb_no (suc words) 16384 n.0 in
        let b = leb_no (suc bytes) 8192 n.1 in
        file_long (omega arith) (omega arith)
        (tested 1048576 (length formula) 1048576 (length proof) (or_yes (ltb 1048576 (length formula)) (ltb 1048576 (length proof)) f))
    go false e false f =
        let n = or_no (ltb words 16384) (ltb bytes 8192) e in
        let m = or_no (ltb 1048576 (length formula)) (ltb 1048576 (length proof)) f in
        let a = leb_no (suc words) 16384 n.0 in
        let b = leb_no (suc bytes) 8192 n.1 in
        let c = leb_no (suc 1048576) (length formula) m.0 in
        let d = leb_no (suc 1048576) (length proof) m.1 in
        on_formula_right words bytes formula proof
        (record { words_enough = omega arith; bytes_enough = omega arith; formula_short = omega arith; proof_short = omega arith })

-- Demand 1 of the definition: there is an answer, and every answer is that one.
pub answered : (words bytes : ℕ) (formula proof : File)
    → (v : Verdict) × Answer words bytes formula proof v × ((w : Verdict) → Answer words bytes formula proof w → w ≡ v)
answered words bytes formula proof =
    let v = answer words bytes formula proof in
    (v, answer_right words bytes formula proof, λ w a. answer_once words bytes formula proof w v a (answer_right words bytes formula proof))
