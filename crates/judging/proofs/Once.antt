-- Two results that a contract allows for one input, with the words and the table that it leaves, are equal.
-- Assumes nothing.
use Prim.Native.Nat.{ℕ}
use mathlib.Core.Path.{◌≡◌, sym, ap, ap₂, subst, ◌∙◌}
use mathlib.Core.List.{List}
use native.Mathlib.Omega.{arith}
use Rattle.std.specs.Prelude.{Result, Ok, Err}
use Rattle.paper.specs.declared.Reason.{Reason}
use Rattle.paper.specs.declared.Fields.{Fields}
use Rattle.paper.specs.Atoms.{Formula}
use Rattle.paper.specs.Files.{File, Step}
use Rattle.paper.specs.Answers.{taken, stops, Judged}
use Rattle.paper.proofs.Judging.{judged_once}
use Rattle.paper.proofs.Answering.{same_read}
use Rattle.judging.specs.declared.Taken.{Taken}
use Rattle.field.specs.declared.Fault.{Fault}
use Rattle.judging.specs.Step.{StepIs, unread, refused, goes_on, words_after, After}
use Rattle.judging.proofs.take_step.Reads as take_step

same_fault : (e d : Fault) → e.reason ≡ d.reason → e.place ≡ d.place → e ≡ d
same_fault e d p q = ap₂ (λ (r : Reason) (n : ℕ). record { reason = r; place = n }) p q

-- a step has one answer
step_once : {proof : File} {vars : ℕ} {F : Formula} {next at : ℕ} {r r' : Result Taken Fault} {G G' : Formula} → StepIs proof vars F next at r G
    → StepIs proof vars F next at r' G' → r ≡ r'
step_once (unread {e = e} a) (unread {e = d} b) = let q = sym a ∙ b in ap Err (same_fault e d (cc) (cc))
step_once (unread a) (refused b i) = let z : ◌≡◌ {A = ℕ} 0 1 = cc in absurd (omega arith)
step_once (unread a) (goes_on b i) = let z : ◌≡◌ {A = ℕ} 0 1 = cc in absurd (omega arith)
step_once (refused a j) (unread b) = let z : ◌≡◌ {A = ℕ} 0 1 = cc in absurd (omega arith)
step_once (goes_on a j) (unread b) = let z : ◌≡◌ {A = ℕ} 0 1 = cc in absurd (omega arith)
step_once {F = F} {next = next} (refused {t = t} {e = e} a j) (refused {e = d} b i) =
    let s = same_read a b in
    let q = judged_once F next t (stops e.reason e.place) (stops d.reason d.place) j (subst (λ (x : Step). Judged F next x (stops d.reason d.place)) (sym s.0) i) in
    ap Err (same_fault e d (cc) (cc))
step_once {F = F} {next = next} (refused {t = t} {e = e} a j) (goes_on {m = m} {G = G} b i) =
    let s = same_read a b in
    let q = judged_once F next t (stops e.reason e.place) (taken G m) j (subst (λ (x : Step). Judged F next x (taken G m)) (sym s.0) i) in
    let z : ◌≡◌ {A = ℕ} 0 1 = cc in absurd (omega arith)
step_once {F = F} {next = next} (goes_on {t = t} {m = m} {G = G} a j) (refused {e = d} b i) =
    let s = same_read a b in
    let q = judged_once F next t (taken G m) (stops d.reason d.place) j (subst (λ (x : Step). Judged F next x (stops d.reason d.place)) (sym s.0) i) in
    let z : ◌≡◌ {A = ℕ} 0 1 = cc in absurd (omega arith)
step_once {F = F} {next = next} (goes_on {t = t} {m = m} {G = G} a j) (goes_on {m = m'} {G = G'} b i) =
    let s = same_read a b in
    let l = s.1 in
    let q = judged_once F next t (taken G m) (taken G' m') j (subst (λ (x : Step). Judged F next x (taken G' m')) (sym s.0) i) in
    cc

-- and an answer leaves one clause table
after_once : (f p : File) (at next : ℕ) (r : Result Taken Fault) (words u u' : List ℕ) → After f p at next r words u → After f p at next r words u' → u ≡ u'
after_once f p at next (Err e) words u u' a b = a ∙ sym b
after_once f p at next (Ok s) words u u' a b =
    let x = a.read in
    let y = b.read in
    let e : a.fields ≡ b.fields = cc in
    a.contents ∙ ap (λ (z : Fields). words_after p at next z words) e ∙ sym b.contents

pub take_step_once : (κs : _) (a : _) (r r' : Result Taken Fault) (s s' : _) → take_step.Post κs a r s → take_step.Post κs a r' s'
    → (r ≡ r') × (s.1.1.1.1.1.0.now ≡ s'.1.1.1.1.1.0.now) × (s.1.1.1.1.1.1.0.now ≡ s'.1.1.1.1.1.1.0.now)
take_step_once κs a r r' s s' p q =
    let e = step_once p.answer q.answer in
    (e, after_once _ _ _ _ r' _ _ _ (rw e at p.after) q.after, p.table ∙ sym q.table)
