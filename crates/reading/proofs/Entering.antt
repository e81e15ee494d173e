-- The loop over the clauses: those entered so far, in front of what the paper reads from here on, are what it reads in all.
-- Assumes nothing.
use Prim.Native.Nat.{ℕ, zero, suc, ◌+◌, ◌≤◌, ◌<◌}
use mathlib.Core.Path.{◌≡◌, refl, sym, ap, ◌∙◌}
use mathlib.Core.List.{List, []}
use native.Mathlib.Omega.{arith}
use native.Mathlib.Numerals.{add-one}
use lib.Dec.{leb}
use lib.ListN.{length, set}
use Rattle.std.proofs.Common.{Result, Ok, Err}
use Rattle.paper.specs.declared.Reason.{Reason}
use Rattle.paper.specs.declared.Reason.TheVariants.{FormulaField, FormulaEnd}
use Rattle.paper.specs.Files.{File, ok, bad, ◌>>=◌, ◌>>◌, need}
use Rattle.paper.specs.Refusals.{read_clauses}
use Rattle.field.specs.declared.Fault.{Fault}
use Rattle.field.specs.Field.{result_of}
use Rattle.field.proofs.Laws.{ok_in, bad_in}
use Rattle.table.specs.Table.{Zero}
use Rattle.lookup.specs.Clause.{formula_word, ClauseTable}
use Rattle.lookup.specs.Live.{live}
use Rattle.lookup.proofs.Clause.{formula_stands}
use Rattle.lookup.proofs.Live.{live_none, formula_entered}
use Rattle.lookup.proofs.Table.{table_start, table_entered}
use Rattle.reading.specs.Reading.{ended, prepend, ClauseTaken, entered, ClausesSaid}
use Rattle.reading.proofs.Clause.{prepend_none, prepend_more, prepend_end}

-- first is the place of the first clause, ws₀ the words at entry; ws are those at the place at, where clause k is next
pub record Entering (f : File) (vars m first : ℕ) (ws₀ ws : List ℕ) (at k : ℕ) : Type 0 where
  pub left : ℕ
  pub counted : k + left ≡ m + 1
  pub words : entered f left k at ws ≡ entered f m 1 first ws₀
  pub clauses : (p : File) → ClauseTable f p k ws
  pub rest : (p : File) → read_clauses f vars m 1 first ≡ prepend (live f p ws) (read_clauses f vars left k at)

pub entering_start : (f : File) (vars m first : ℕ) (ws : List ℕ) → Zero ws → Entering f vars m first ws ws first 1
entering_start f vars m first ws z = record {
  left = m;
  counted = omega arith;
  words = refl;
  clauses = λ p. table_start f p ws z;
  rest = λ p. rw (live_none f p ws z) (sym (prepend_none _));
}

module _ {f : File} {vars m first : ℕ} {ws₀ ws : List ℕ} {at k : ℕ} (i : Entering f vars m first ws₀ ws at k) where
  module _ (more : k ≤ m) where
    pub entering_turn : length f ≤ 1048576 → k < length ws → (next : ℕ) → ClauseTaken f vars at next → (word : ℕ) → word ≡ formula_word at → (us : List ℕ)
        → us ≡ set ws k word → Entering f vars m first ws₀ us next (k + 1)
    unfolding entered
    entering_turn short inside next c word l us e = go i.left i.counted i.words i.rest
      where
        small : at < 1048576
        small = let s = c.starts in omega arith

        go : (n : ℕ) → k + n ≡ m + 1 → entered f n k at ws ≡ entered f m 1 first ws₀
            → ((p : File) → read_clauses f vars m 1 first ≡ prepend (live f p ws) (read_clauses f vars n k at)) → Entering f vars m first ws₀ us next (k + 1)
        go zero q w r = absurd (omega arith)
        go (suc n) q w r = record {
          left = n;
          counted = omega arith;
          words = rw (e, l, c.after, add-one k) w;
          clauses = λ p. rw (e, l) (table_entered (i.clauses p) inside (formula_word at) (omega arith) (formula_stands FormulaField 2 f p at c.extent small c.stands));
          rest = λ p.
              rw (e, l, add-one k, formula_entered FormulaField 2 f p at c.extent small ws k (i.clauses p).unused inside c.stands)
              (r p ∙ ap (prepend (live f p ws)) (c.read n k) ∙ prepend_more _ _ _);
        }

    pub entering_bad : (reason : Reason) (place : ℕ) → ((j n : ℕ) → read_clauses f vars (suc j) n at ≡ bad reason place)
        → ended f vars m (read_clauses f vars m 1 first) ≡ bad reason place
    unfolding prepend ended ◌>>=◌
    entering_bad reason place b = go i.left i.counted (i.rest [])
      where
        go : (n : ℕ) → k + n ≡ m + 1 → read_clauses f vars m 1 first ≡ prepend (live f [] ws) (read_clauses f vars n k at)
            → ended f vars m (read_clauses f vars m 1 first) ≡ bad reason place
        go zero q r = absurd (omega arith)
        go (suc n) q r = rw (r, b n k)

  module _ (none : m < k) where
    all : (p : File) → read_clauses f vars m 1 first ≡ ok (live f p ws, at)
    unfolding read_clauses
    all p = let z : i.left ≡ 0 = omega (arith, i.counted) in rw z at (i.rest p) ∙ prepend_end (live f p ws) at

    -- "after clause m, 7"
    pub entering_end : (r : Result (Unit {0}) Fault) → r ≡ result_of (need (leb (length f) at) FormulaEnd at) → ClausesSaid f vars m first ws₀ ws r
    unfolding ended ◌>>=◌ ◌>>◌ need entered result_of
    entering_end (Err b) e = rw (all [], bad_in b _ e)
    entering_end (Ok u) e = let z : i.left ≡ 0 = omega (arith, i.counted) in record {
      read = λ p. rw (all p, ok_in u _ e);
      words = rw z at i.words;
      table = λ p. let n : k ≡ m + 1 = omega (arith, i.counted) in rw n at (i.clauses p);
    }
