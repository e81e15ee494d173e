-- What each stage of a step's judgement passes on to the next, and concludes from what it calls.
-- Assumes nothing.
use Prim.Native.Nat.{ℕ, suc, ◌+◌, ◌-◌, ◌%◌, ◌≤◌, ◌<◌}
use mathlib.Core.Path.{◌≡◌, refl, sym, ap, ◌∙◌, subst}
use mathlib.Core.Logic.{◌≢◌}
use mathlib.Core.Bool.{Bool, true, false, ◌||◌}
use lib.Dec.{eqb, ltb}
use mathlib.Core.List.{List, []}
use native.Mathlib.Omega.{arith}
use native.Mathlib.Numerals.{add-one}
use Rattle.std.specs.Prelude.{Result, Ok, Err}
use lib.ListN.{length, get_or, set, take, length-set}
use Rattle.paper.specs.declared.Reason.{Reason}
use Rattle.paper.specs.declared.Reason.TheVariants.{ProofField, ProofCode, ProofTwice, NumbersUsedUp}
use Rattle.paper.specs.declared.Fields.{Fields}
use Rattle.paper.specs.Atoms.{Clause, Formula, Witness}
use Rattle.paper.specs.Files.{File, Read, ok, bad, ◌>>◌, payload, need, past, codes, mappings}
use Rattle.paper.specs.Conditions.{without, after}
use Rattle.paper.specs.Refusals.{each, no_two, check_clause, read_fields, check_mappings, check_numbers}
use Rattle.paper.specs.Answers.{Outcome, taken, Judged, deleted}
use Rattle.paper.proofs.Lists.{eqb_same, eqb_other, leb_yes, leb_within, leb_beyond}
use Rattle.paper.specs.Valid.{Codes, Apart, Listed}
use Rattle.paper.proofs.Reading.{Then, Ranged, check_clause_then, check_mappings_then, check_numbers_then}
use Rattle.paper.proofs.Scan.{length_payload}
use Rattle.field.specs.declared.Fault.{Fault}
use Rattle.field.specs.Field.{result_of}
use Rattle.field.proofs.Laws.{ok_in, bad_in}
use Rattle.lookup.specs.declared.Clauses.{Clauses}
use Rattle.lookup.specs.Clause.{proof_word, ClauseTable}
use Rattle.lookup.specs.Live.{live}
use Rattle.lookup.proofs.Table.{used_live, used_length}
use Rattle.table.proofs.Kept.{zero_value}
use Rattle.mapping.specs.Mapping.{Fitting, Bare, variables, loaded, unloaded, said_by, table_after}
use Rattle.mapping.proofs.Images.{fitting, once_distinct, loaded_length, loaded_value, loaded_image_of, unload_loaded, zero_bare}
use Rattle.steps.specs.declared.Kind.{Kind}
use Rattle.steps.specs.declared.Kind.TheVariants.{Delete}
use Rattle.steps.specs.declared.StepRead.{StepRead}
use Rattle.steps.specs.Steps.{tag_of, IsRead, removed, Below}
use Rattle.steps.proofs.Fields.{tag_once, lie}
use Rattle.steps.proofs.Numbers.{removed_length, listed_used, after_removing, after_adding}
use Rattle.steps.proofs.Step.{no_codes, clause_of, witness_of, numbers_of, fields_refuse, clause_refuses, mappings_refuse, twice_refuses, rest_refuses, new_read, delete_read, delete_tag}
use Rattle.loading.proofs.Trivial.{images_inward}
use Rattle.conditions.specs.Asked.{live_in}
use Rattle.judging.specs.Step as step
use Rattle.judging.specs.Step.{outcome, rest, New, NewJudged, JudgementIs, unread, judged, Checkable, Loadable, Ready, words_after, Done}

-- 1. A step that is refused as it is read.
module _ {f p : File} {at vars next : ℕ} {words t : List ℕ} {s : StepRead} (c : Checkable f p at s vars next words t) where
  abbrev F : Formula
  F = live f p words

  abbrev x : Fields
  x = s.fields

  pub clause_stops : {C : List ℕ} → C ≡ payload p x.clause → (e : Fault) → Err e ≡ result_of (check_clause ProofCode ProofTwice vars x.clause.start (codes C))
      → JudgementIs p vars F next at x (Err e)
  clause_stops ec e q = unread (clause_refuses p vars F next at x c.read.fields _ _ (bad_in e _ (rw ec at q)))

  -- the payloads of the clause and of the witness
  module _ {C w : List ℕ} (ec : C ≡ payload p x.clause) {o : Unit {0}} (checked : Ok o ≡ result_of (check_clause ProofCode ProofTwice vars x.clause.start (codes C)))
      (ew : w ≡ payload p x.witness) where
    fine : check_clause ProofCode ProofTwice vars x.clause.start (clause_of p x) ≡ ok tt
    fine = ok_in o _ (rw ec at checked)

    pub mappings_stop : (e : Fault) → Err e ≡ result_of (check_mappings vars x.witness.start (mappings (codes w))) → JudgementIs p vars F next at x (Err e)
    mappings_stop e q = unread (mappings_refuse p vars F next at x c.read.fields fine _ _ (bad_in e _ (rw ew at q)))

    -- the table that the witness is loaded into
    module _ {n : Unit {0}} (told : Ok n ≡ result_of (check_mappings vars x.witness.start (mappings (codes w)))) (u : List ℕ) (eu : u ≡ t) where
      mapped : check_mappings vars x.witness.start (witness_of p x) ≡ ok tt
      mapped = ok_in n _ (rw ew at told)

      fits : Fitting (witness_of p x)
      fits = fitting vars x.witness.start (witness_of p x) c.ready.variables mapped

      long : 8192 ≤ length t
      long = omega (arith, c.ready.table_long)

      bare : Bare t
      bare = zero_bare t c.ready.table_zero

      fours : length w % 4 ≡ 0
      unfolding past
      fours =
          let i = lie p at x c.read.fields in
          rw (ew, length_payload p x.witness i.witness_within) i.witness_fours

      pub load_asks : (8192 ≤ length u) × ((length w % 4 ≡ 0) × (Fitting (mappings (codes w)) × Bare u))
      load_asks = (rw eu long, (fours, (rw ew fits, rw eu bare)))

      -- a variable is mapped twice
      pub twice_stops : (i : ℕ) → ((why : Reason) (q : ℕ) → no_two why [] 4 q (variables (mappings (codes w))) ≡ said_by why q (Err i))
          → JudgementIs p vars F next at x (Err (record { reason = ProofTwice; place = x.witness.start + i }))
      unfolding said_by
      twice_stops i said =
          unread (twice_refuses p vars F next at x c.read.fields fine mapped _ _ (rw ew at (said ProofTwice x.witness.start)))

      module _ {m : Unit {0}} (said : (why : Reason) (q : ℕ) → no_two why [] 4 q (variables (mappings (codes w))) ≡ said_by why q (Ok m)) (v : List ℕ)
          (ev : v ≡ table_after (Ok m) u (mappings (codes w))) where
        once : (why : Reason) (q : ℕ) → no_two why [] 4 q (variables (witness_of p x)) ≡ ok tt
        unfolding said_by
        once why q = rw ew at (said why q)

        now_loaded : v ≡ loaded t (witness_of p x)
        unfolding table_after
        now_loaded = ev ∙ rw (eu, ew) refl

        pub loadable : Loadable f p at s vars next words v
        unfolding said_by
        loadable =
            rw now_loaded (record {
              place = c.ready.place;
              last = c.ready.last;
              words_long = c.ready.words_long;
              clauses = c.ready.clauses;
              kept = c.ready.kept;
              read = c.read;
              clause = fine;
              mapped = mapped;
              once = once ProofTwice x.witness.start;
              table = record {
                small = c.ready.variables;
                long = omega (arith, loaded_length (witness_of p x) t, long);
                unset = λ i. loaded_value (witness_of p x) t i ∙ zero_value t c.ready.table_zero i;
              };
              images = λ l _ _. loaded_image_of (witness_of p x) t long fits bare (once_distinct (witness_of p x) once) l;
            })

        -- and unloaded again
        module _ (y : List ℕ) (ey : y ≡ v) where
          pub unload_asks : (8192 ≤ length y) × ((length w % 4 ≡ 0) × Fitting (mappings (codes w)))
          unload_asks = (rw (ey, now_loaded, loaded_length (witness_of p x) t) long, (fours, rw ew fits))

          pub brought_back : (z : List ℕ) → z ≡ unloaded y (mappings (codes w)) → z ≡ t
          brought_back z ez = ez ∙ rw (ey, now_loaded, ew) (unload_loaded (witness_of p x) t long fits bare)

-- two parts, of which neither refuses
both_fine : (m n : Read (Unit {0})) → (m >> n) ≡ ok tt → (m ≡ ok tt) × (n ≡ ok tt)
unfolding ◌>>◌
both_fine (ok u) n q = (refl, q)
both_fine (bad r p) n q = let z : ◌≡◌ {A = ℕ} 0 1 = cc in absurd (omega arith)

other_tag : (k : Kind) → k ≢ Delete → tag_of k ≢ 0x14
other_tag k ne e = ne (tag_once k Delete e)

-- the numbers: the first that is refused; or none, and then the number that a new clause gets
module _ (F : Formula) (at : ℕ) (k : Kind) (start : ℕ) (ns : List ℕ) (next : ℕ) where
  pub numbers_stop : (e : Fault) → Err e ≡ result_of (check_numbers F 0 start ns) → Err e ≡ result_of (rest F at k start ns next)
  unfolding rest ◌>>◌ result_of
  numbers_stop e q = rw (bad_in e (check_numbers F 0 start ns) q) refl

  module _ {u : Unit {0}} (fine : Ok u ≡ result_of (check_numbers F 0 start ns)) where
    pub no_new : k ≡ Delete → Ok tt ≡ result_of (rest F at k start ns next)
    unfolding rest ◌>>◌ need result_of
    no_new e = rw (ok_in u _ fine, e) refl

    pub new_fits : k ≢ Delete → next < 16384 → Ok tt ≡ result_of (rest F at k start ns next)
    unfolding rest ◌>>◌ need result_of
    new_fits ne h = rw (ok_in u _ fine, eqb_other (tag_of k) 0x14 (other_tag k ne), leb_within (suc next) 16384 h) refl

    pub none_left : k ≢ Delete → 16384 ≤ next → Err (record { reason = NumbersUsedUp; place = at }) ≡ result_of (rest F at k start ns next)
    unfolding rest ◌>>◌ need result_of
    none_left ne h = rw (ok_in u _ fine, eqb_other (tag_of k) 0x14 (other_tag k ne), leb_beyond (suc next) 16384 (omega arith)) refl

below_last : {next : ℕ} (at tag : ℕ) → tag ≢ 0x14 → need (eqb tag 0x14 || ltb next 16384) NumbersUsedUp at ≡ ok tt → next < 16384
unfolding need
below_last {next} at tag ne q = go (ltb next 16384) refl (rw (eqb_other tag 0x14 ne) at q)
  where
    go : (b : Bool) → ltb next 16384 ≡ b → need b NumbersUsedUp at ≡ ok tt → next < 16384
    go true e q = leb_yes (suc next) 16384 e
    go false e q = let z : ◌≡◌ {A = ℕ} 0 1 = cc in absurd (omega arith)

-- 2. The numbers, the new clause's number, and the conditions.
module _ {f p : File} {at vars next : ℕ} {words t : List ℕ} {s : StepRead} (l : Loadable f p at s vars next words t) where
  abbrev G : Formula
  G = live f p words

  abbrev C : Clause
  C = clause_of p s.fields

  abbrev σ : Witness
  σ = witness_of p s.fields

  abbrev ns : List ℕ
  ns = numbers_of p s.fields

  -- the numbers in use hold all live clauses
  all_used : take (next - 0) words ≡ take next words
  all_used = let e : next - 0 ≡ next = omega arith in rw e refl

  pub used : live f p (take next words) ≡ G
  used = rw all_used at (used_live l.clauses)

  in_words : next ≤ length words
  in_words = omega (arith, l.last, l.words_long)

  pub used_limit : length (take next words) ≤ 16384
  used_limit = omega (arith, rw all_used at (used_length l.clauses in_words), l.last)

  module _ {numbers : List ℕ} (en : numbers ≡ payload p s.fields.numbers) where
    same_rest : rest G at s.kind s.fields.numbers.start (codes numbers) next ≡ (check_numbers G 0 s.fields.numbers.start ns >> need (eqb (get_or p at 0) 0x14 || ltb next 16384) NumbersUsedUp at)
    unfolding rest
    same_rest = rw (l.read.tag, en) refl

    pub rest_stops : (e : Fault) → Err e ≡ result_of (rest G at s.kind s.fields.numbers.start (codes numbers) next) → JudgementIs p vars G next at s.fields (Err e)
    rest_stops e q = unread (rest_refuses p vars G next at s.fields l.read.fields l.clause l.mapped l.once _ _ (sym same_rest ∙ bad_in e _ q))

    module _ {u : Unit {0}} (fine : Ok u ≡ result_of (rest G at s.kind s.fields.numbers.start (codes numbers) next)) where
      both : (check_numbers G 0 s.fields.numbers.start ns ≡ ok tt) × (need (eqb (get_or p at 0) 0x14 || ltb next 16384) NumbersUsedUp at ≡ ok tt)
      both = both_fine _ _ (sym same_rest ∙ ok_in u _ fine)

      right : check_numbers G 0 s.fields.numbers.start ns ≡ ok tt
      right = both.0

      listed : Listed G 0 ns
      listed = subst (Then (λ _. Listed G 0 ns)) right (check_numbers_then G 0 s.fields.numbers.start ns)

      pub delete_passes : s.kind ≡ Delete → JudgementIs p vars G next at s.fields (Ok tt)
      unfolding outcome
      delete_passes d =
          let e : get_or p at 0 ≡ 0x14 = sym l.read.tag ∙ ap tag_of d in
          judged {j = Ok tt} (delete_read p vars G next at s.fields l.read.fields l.clause l.mapped l.once right e) (λ ne. absurd (ne e)) listed
          (rw (delete_tag C σ ns (get_or p at 0) e, eqb_same (get_or p at 0) 0x14 e, outcome) deleted)

      ranged : Ranged vars σ
      ranged = subst (Then (λ _. Ranged vars σ)) l.mapped (check_mappings_then vars s.fields.witness.start σ)

      module _ (k : Kind) (kind : s.kind ≡ k) (ne : tag_of k ≢ 0x14) where
        new_tag : get_or p at 0 ≢ 0x14
        new_tag = rw (← l.read.tag, kind) ne

        h : next < 16384
        h = below_last at _ new_tag both.1

        module _ {clause : List ℕ} (ec : clause ≡ payload p s.fields.clause) where
          pub new : (c : Clauses) → live_in c ≡ G → length c.words.now ≤ 16384 → New c k clause numbers vars next t
          new c is limit =
              let i = lie p at s.fields l.read.fields in
              let d = subst (Then (λ _. Codes vars C × Apart C)) l.clause (check_clause_then ProofCode ProofTwice vars s.fields.clause.start C) in
              record {
                limit = limit;
                kept = rw is l.kept;
                new = rw ec (record { codes = d.0; apart = d.1; number = h });
                listed = rw (is, en) listed;
                none_listed = λ b. rw en (no_codes p s.fields.numbers (i.no_numbers (rw (← kind, l.read.tag) at b)));
                table = l.table;
                inward = images_inward vars t σ l.table.small l.images (λ v a m. (ranged v a m).2);
              }

          pub new_judged : (r : Result (Unit {0}) Fault) → NewJudged (live f p (take next words)) k clause numbers vars next t r
              → JudgementIs p vars G next at s.fields r
          new_judged r j =
              judged (new_read p vars G next at s.fields l.read.fields l.clause l.mapped l.once right new_tag h) (λ _. h) listed
              (rw (used, ec, en, ← kind, l.read.tag) at (j σ l.images))

-- 3. A DELETE: it has no clause and no witness, so that its numbers come first, and the table holds the images of none.
module _ {f p : File} {at vars next : ℕ} {words t : List ℕ} {s : StepRead} (c : Checkable f p at s vars next words t) (d : s.kind ≡ Delete) where
  deletes : get_or p at 0 ≡ 0x14
  deletes = sym c.read.tag ∙ ap tag_of d

  bare_clause : clause_of p s.fields ≡ []
  bare_clause = no_codes p s.fields.clause ((lie p at s.fields c.read.fields).without_clause deletes)

  bare_witness : codes (payload p s.fields.witness) ≡ []
  bare_witness = no_codes p s.fields.witness ((lie p at s.fields c.read.fields).without_witness deletes)

  delete_loadable : Loadable f p at s vars next words t
  unfolding check_clause each check_mappings no_two mappings ◌>>◌ result_of said_by table_after loaded
  delete_loadable =
      loadable c {C = payload p s.fields.clause} {w = payload p s.fields.witness} refl {o = tt} (rw bare_clause refl) refl {n = tt} (rw bare_witness refl) t refl
      {m = tt} (λ why q. rw bare_witness refl) t (rw bare_witness refl)

  pub delete_judged : {numbers : List ℕ} → numbers ≡ payload p s.fields.numbers → (r : Result (Unit {0}) Fault)
      → r ≡ result_of (rest (live f p words) at s.kind s.fields.numbers.start (codes numbers) next) → JudgementIs p vars (live f p words) next at s.fields r
  delete_judged en (Ok u) q = delete_passes delete_loadable en q d
  delete_judged en (Err e) q = rest_stops delete_loadable en e q

-- 4. The step taken into the clause table.
module _ {f p : File} {at vars next : ℕ} {words t : List ℕ} (r : Ready f p at vars next words t) where
  pub fields_stop : (e : Fault) → read_fields p at ≡ bad e.reason e.place → Done f p at vars next words t (Err e) words t
  fields_stop e q = record { answer = step.unread (fields_refuse p vars (live f p words) next at _ _ q); after = refl; table = refl }

  module _ (s : StepRead) (read : IsRead p at s) (u : List ℕ) (same : u ≡ t) where
    abbrev y : Fields
    y = s.fields

    pub step_stopped : (e : Fault) → JudgementIs p vars (live f p words) next at y (Err e) → Done f p at vars next words t (Err e) words u
    unfolding outcome
    step_stopped e (unread q) = record { answer = step.unread q; after = refl; table = same }
    step_stopped e (judged q h n j) = record { answer = step.refused q j; after = refl; table = same }

    module _ {v : Unit {0}} (passed : JudgementIs p vars (live f p words) next at y (Ok v)) where
      -- the numbers that it names are in use
      pub numbers_used : Below next (numbers_of p y)
      numbers_used = go passed
        where
          go : JudgementIs p vars (live f p words) next at y (Ok v) → Below next (numbers_of p y)
          go (judged q h n j) = listed_used r.clauses (numbers_of p y) n

      new_tag' : s.kind ≢ Delete → get_or p at 0 ≢ 0x14
      new_tag' ne e = other_tag s.kind ne (read.tag ∙ e)

      pub number_free : s.kind ≢ Delete → next < 16384
      number_free ne = go passed
        where
          go : JudgementIs p vars (live f p words) next at y (Ok v) → next < 16384
          go (judged q h n j) = h (new_tag' ne)

      -- its outcome, by whether it deletes
      abbrev outcomes : Bool → Outcome
      outcomes b =
          elim b [
            | true ↦ taken (without (numbers_of p y) (live f p words)) next
            | false ↦ taken (after (numbers_of p y) next (clause_of p y) (live f p words)) (suc next)
          ]

      module _ (us : List ℕ) (e : us ≡ removed words (numbers_of p y)) where
        room : next ≤ length words
        room = omega (arith, r.last, r.words_long)

        pub deleted_done : s.kind ≡ Delete → Done f p at vars next words t (Ok (record { next = next; later = s.next })) us u
        unfolding outcome words_after
        deleted_done k = rw read.next (go passed)
          where
            d : get_or p at 0 ≡ 0x14
            d = sym read.tag ∙ ap tag_of k

            now : (live f p (removed words (numbers_of p y)) ≡ without (numbers_of p y) (live f p words)) × ClauseTable f p next (removed words (numbers_of p y))
            now = after_removing r.clauses r.last room (numbers_of p y) numbers_used

            go : JudgementIs p vars (live f p words) next at y (Ok v) → Done f p at vars next words t (Ok (record { next = next; later = record { at = y.next } })) us u
            go (judged {t = z} q h n j) =
                record {
                  answer = step.goes_on {m = next} {G = live f p us} q
                      (rw (e, now.0) (subst (λ (b : Bool). Judged (live f p words) next z (outcomes b)) (eqb_same (get_or p at 0) 0x14 d) j));
                  after = record {
                    fields = y;
                    read = read.fields;
                    contents = e ∙ rw (eqb_same (get_or p at 0) 0x14 d, words_after);
                    long = ap length e ∙ removed_length (numbers_of p y) words;
                    last = r.last;
                    clauses = rw e now.1;
                  };
                  table = same;
                }

        pub added_done : s.kind ≢ Delete → (ws : List ℕ) (w : ℕ) → ws ≡ set us next w → w ≡ proof_word at
            → Done f p at vars next words t (Ok (record { next = next + 1; later = s.next })) ws u
        unfolding outcome words_after
        added_done k ws w ew at_word = rw read.next (go passed)
          where
            contents : ws ≡ set (removed words (numbers_of p y)) next (proof_word at)
            contents = ew ∙ ap (λ (y : ℕ). set us next y) at_word ∙ ap (λ (y : List ℕ). set y next (proof_word at)) e

            ne : get_or p at 0 ≢ 0x14
            ne = new_tag' k

            small : next < 16384
            small = number_free k

            now : (live f p (set (removed words (numbers_of p y)) next (proof_word at)) ≡ after (numbers_of p y) next (clause_of p y) (live f p words))
                × ClauseTable f p (next + 1) (set (removed words (numbers_of p y)) next (proof_word at))
            now =
                after_adding r.clauses r.last room (numbers_of p y) numbers_used ProofField (get_or p at 0) at y.clause
                (omega (arith, r.place, r.proof_short)) (omega (arith, small, r.words_long)) ((lie p at y read.fields).new ne)

            go : JudgementIs p vars (live f p words) next at y (Ok v) → Done f p at vars next words t (Ok (record { next = next + 1; later = record { at = y.next } })) ws u
            go (judged {t = z} q h n j) =
                record {
                  answer = rw add-one (step.goes_on {m = suc next} {G = live f p ws} q
                      (rw (contents, now.0) (subst (λ (b : Bool). Judged (live f p words) next z (outcomes b)) (eqb_other (get_or p at 0) 0x14 ne) j)));
                  after = record {
                    fields = y;
                    read = read.fields;
                    contents = contents ∙ rw (eqb_other (get_or p at 0) 0x14 ne, words_after);
                    long = ap length contents ∙ length-set (removed words (numbers_of p y)) next (proof_word at) ∙ removed_length (numbers_of p y) words;
                    last = omega (arith, small);
                    clauses = rw contents now.1;
                  };
                  table = same;
                }
