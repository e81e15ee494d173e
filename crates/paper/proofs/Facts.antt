-- Paper 02, §13, "Two facts for the manual": of a WSR step with a longer MODULO list, and of one with an empty witness. "Both concern the
-- one step, past reasons 8 to 12; later steps may differ."
-- Assumes nothing.
use Prim.Native.Nat.{ℕ, suc}
use mathlib.Core.Path.{◌≡◌, refl, sym, ◌∙◌, subst}
use mathlib.Core.Logic.{⊎_elim, ◌↔◌}
use mathlib.Core.List.Memᴰ
use mathlib.Core.List.{List, [], ◌∷◌, ◌++◌, map}
use native.Mathlib.Omega.{arith}
use Rattle.paper.specs.declared.Reason.{Reason}
use Rattle.paper.specs.declared.Reason.TheVariants.{NotRup, NotPassing}
use Rattle.paper.specs.declared.Verdict.TheVariants.{Refuted}
use Rattle.paper.specs.Atoms.{◌∈◌, Clause, Formula, Live, Witness}
use Rattle.paper.specs.Files.{File, rup_step, wsr_step}
use Rattle.paper.specs.Conditions.{under, Passes, follows, after}
use Rattle.paper.specs.Answers.{taken, stops, Judged, not_rup, wsr_lowest, wsr_new, refused, Answer}
use Rattle.paper.specs.Valid.{Valid, Seen}
use Rattle.paper.proofs.Lists.{under_in}
use Rattle.paper.proofs.Sides.{rup_live, Asks, only_taken, always_taken, lowest_wsr}
use Rattle.paper.proofs.Empty.{rup_more, rup_passes, image_itself, empty_witness}
use Rattle.paper.proofs.Cases.{Case, case, modulo_none, answer_of, cases_right}

-- 1. The first: "a WSR step that is taken with one MODULO list is also taken with any longer list of live numbers that holds it".
-- Nothing that the reading has seen is needed: the conditions ask less of a longer list, whatever it holds.
pub longer_taken : {F G : Formula} {next m : ℕ} {C : Clause} {s : Witness} (modulo longer : List ℕ) → ((n : ℕ) → n ∈ modulo → n ∈ longer)
    → Judged F next (wsr_step C s modulo) (taken G m) → Judged F next (wsr_step C s longer) (taken (after longer next C F) (suc next))
longer_taken {F} {next} {C} {s} modulo longer holds j =
    let asked = (only_taken j).0 in
    always_taken F next (wsr_step C s longer) (asked.0, λ n D q out. asked.1 n D q (λ named. out (holds n named)))

-- 2. The second, over `Empty.empty_witness`: taken both, with the same clauses live after it and the same next number, or neither
pub empty_as_rup : (vars : ℕ) (F : Formula) (next : ℕ) (C : Clause) → Seen vars F next (rup_step C) → (G : Formula) (m : ℕ)
    → Judged F next (wsr_step C [] []) (taken G m) ↔ Judged F next (rup_step C) (taken G m)
empty_as_rup vars F next C seen G m = (there, back)
  where
    asked : Asks F (wsr_step C [] []) ↔ Asks F (rup_step C)
    asked = empty_witness F C (λ l m. omega (arith, seen.codes l m)) []

    there : Judged F next (wsr_step C [] []) (taken G m) → Judged F next (rup_step C) (taken G m)
    there j = let t = only_taken j in subst (Judged F next (rup_step C)) (sym t.1) (always_taken F next (rup_step C) (asked.0 t.0))

    back : Judged F next (rup_step C) (taken G m) → Judged F next (wsr_step C [] []) (taken G m)
    back j = let t = only_taken j in subst (Judged F next (wsr_step C [] [])) (sym t.1) (always_taken F next (wsr_step C [] []) (asked.1 t.0))

wsr_reason : {F : Formula} {next : ℕ} {C : Clause} {s : Witness} {modulo : List ℕ} {r : Reason} {n : ℕ} → Judged F next (wsr_step C s modulo) (stops r n)
    → r ≡ NotPassing
wsr_reason (wsr_lowest l) = refl
wsr_reason (wsr_new old new) = refl

-- Where a WSR step with an empty witness is refused, it is for reason 15 at its own clause, since a live one is its own image and passes;
-- and the RUP step of that clause is refused too. Of what the reading has seen of the live clauses this is needed: false is none of their literals.
pub empty_refused : (vars : ℕ) (F : Formula) (next : ℕ) (C : Clause) (modulo : List ℕ) → Valid vars F → (r : Reason) (n : ℕ)
    → Judged F next (wsr_step C [] modulo) (stops r n) → (r ≡ NotPassing) × (n ≡ next) × Judged F next (rup_step C) (stops NotRup 0)
empty_refused vars F next C modulo valid r n j = (wsr_reason j, own.0, not_rup (λ q. own.1 (rup_passes F C [] C q)))
  where
    among : (D : Clause) → Live F n D → (k : ℕ) → k ∈ D → k ∈ C ++ under [] D
    among D q k m =
        Memᴰ.append_right C (subst (λ (x : ℕ). x ∈ under [] D) (image_itself k)
        (under_in [] D m (λ e. absurd (omega (arith, valid.codes n D q k m, sym (image_itself k) ∙ e)))))

    passes : (D : Clause) → Live F n D → Passes F C [] D
    passes D q = follows (rup_more F D (C ++ under [] D) (among D q) (rup_live F n D q))

    own : (n ≡ next) × (¬ (Passes F C [] C))
    own = ⊎_elim (λ q. absurd (q.3 (passes q.0 q.1))) (λ q. q) (lowest_wsr j).0

-- 3. Both facts, and what they do not say, worked by hand over V=4, 1:[1 2], 2:[1 -2], 3:[-1 2], 4:[-1 -2], 5:[-3 4].
abbrev deck : File
deck =
    (0x01 ∷ 0 ∷ 4 ∷ 0 ∷ 4 ∷ 0 ∷ 5 ∷ 0x02 ∷ 0 ∷ 4 ∷ 0 ∷ 2 ∷ 0 ∷ 4 ∷ 0x02 ∷ 0 ∷ 4 ∷ 0 ∷ 2 ∷ 0 ∷ 5 ∷ [])
    ++ (0x02 ∷ 0 ∷ 4 ∷ 0 ∷ 3 ∷ 0 ∷ 4 ∷ 0x02 ∷ 0 ∷ 4 ∷ 0 ∷ 3 ∷ 0 ∷ 5 ∷ 0x02 ∷ 0 ∷ 4 ∷ 0 ∷ 7 ∷ 0 ∷ 8 ∷ [])

-- three steps: WSR [3], 3 to T, with a MODULO; a step with the clause [1]; RUP []
abbrev steps : File → File → File
steps modulo second = (0x13 ∷ 0 ∷ 2 ∷ 0 ∷ 6 ∷ 0x21 ∷ 0 ∷ 4 ∷ 0 ∷ 3 ∷ 0 ∷ 0 ∷ []) ++ modulo ++ second ++ (0x11 ∷ 0 ∷ 0 ∷ [])

-- WSR [1], no mapping, with a MODULO
abbrev unmapped : File → File
unmapped modulo = (0x13 ∷ 0 ∷ 2 ∷ 0 ∷ 2 ∷ 0x21 ∷ 0 ∷ 0 ∷ []) ++ modulo

-- RUP [1]
abbrev as_rup : File
as_rup = 0x11 ∷ 0 ∷ 2 ∷ 0 ∷ 2 ∷ []

abbrev modulo_one : ℕ → File
modulo_one n = 0x22 ∷ 0 ∷ 2 ∷ 0 ∷ n ∷ []

abbrev pub facts : List Case
facts =
    -- step 1 modulo 5: taken, and the steps behind it too, step 2 as WSR with no mapping, modulo none, and as RUP
    case deck (steps (modulo_one 5) (unmapped modulo_none)) (Refuted 3)
    ∷ case deck (steps (modulo_one 5) as_rup) (Refuted 3)
    -- step 1 modulo 1, 5: taken, but step 2 misses clause 1, either way
    ∷ case deck (steps (0x22 ∷ 0 ∷ 4 ∷ 0 ∷ 1 ∷ 0 ∷ 5 ∷ []) (unmapped modulo_none)) (refused NotPassing 2 7)
    ∷ case deck (steps (0x22 ∷ 0 ∷ 4 ∷ 0 ∷ 1 ∷ 0 ∷ 5 ∷ []) as_rup) (refused NotRup 2 0)
    -- step 1 modulo none, and modulo 1: lists that do not hold the first
    ∷ case deck (steps modulo_none (unmapped modulo_none)) (refused NotPassing 1 5)
    ∷ case deck (steps (modulo_one 1) (unmapped modulo_none)) (refused NotPassing 1 5)
    -- step 2 with no mapping, modulo 3: taken as RUP is, but step 3 misses clause 3
    ∷ case deck (steps (modulo_one 5) (unmapped (modulo_one 3))) (refused NotRup 3 0)
    -- and refused as RUP is, where clause 1 is missing
    ∷ case deck (steps (0x22 ∷ 0 ∷ 4 ∷ 0 ∷ 1 ∷ 0 ∷ 5 ∷ []) (unmapped (modulo_one 3))) (refused NotPassing 2 7)
    ∷ []

pub facts_worked : (c : Case) → c ∈ facts → Answer 16384 8192 c.formula c.proof c.says
unfolding answer_of
facts_worked = cases_right facts computed
  where
    computed : map answer_of facts ≡ map (λ (c : Case). c.says) facts
    computed = refl
