-- Tables that are cleared, lent in part and cleared again.
use Prim.Native.Nat.{ℕ, ◌≤◌}
use mathlib.Core.Path.{◌≡◌, sym, ap, ◌∙◌}
use mathlib.Core.List.{List, ◌++◌}
use Rattle.std.specs.Prelude.{Result, Ok, Err}
use native.Mathlib.Omega.{arith}
use lib.ListN.{length, take, drop, replicate}
use lib.Seq.{length-take-le, length_front, drop_at}
use Rattle.limits.specs.Cleared.{zeroed}
use Rattle.limits.proofs.Cleared.{length_zeroed, zeroed_is, take_zeroed, drop_zeroed}
use Rattle.judge.specs.Judge.{verdict_of}
use Rattle.judging.specs.Flaws.{judgement}
use Rattle.judging.specs.declared.Flaw.{Flaw}
use Rattle.verdict.specs.declared.Refusal.{Refusal}
use Rattle.verdict.specs.Judging.{refused_node, Settled, refusal_at, Judging}

module _ (k : ℕ) (l : List ℕ) (h : k ≤ length l) where
  -- the part of a table that is lent
  pub part_long : k ≡ length (take k l)
  part_long = sym (length-take-le k l h)

  -- a table of which the cleared part was lent, and then cleared again
  pub cleared_again : (e : List ℕ) → length e ≡ length (take k (zeroed 0 k l)) → zeroed 0 k (e ++ drop k (zeroed 0 k l)) ≡ zeroed 0 k l
  cleared_again e g =
      let long : k ≤ length (e ++ drop k (zeroed 0 k l)) = omega (arith, length_front (zeroed 0 k l) e k g, length_zeroed 0 k l) in
      let front : length e ≡ k = g ∙ length-take-le k (zeroed 0 k l) (omega (arith, length_zeroed 0 k l)) in
      zeroed_is 0 k _ long
      ∙ ap (λ (t : List ℕ). replicate k 0 ++ t) (drop_at e (drop k (zeroed 0 k l)) k front ∙ drop_zeroed 0 k l)
      ∙ sym (zeroed_is 0 k l h)

-- the judge over two such tables
pub settled : (k : ℕ) (x t : List ℕ) (n : ℕ) (r : Result (Unit {0}) Flaw) (s₀ n₀ s₁ n₁ e f s₂ n₂ : List ℕ) → k ≤ length s₀ → k ≤ length n₀ → s₁ ≡ zeroed 0 k s₀ → n₁ ≡ zeroed 0 k n₀ →
    r ≡ judgement (verdict_of x t n (take k s₁) (take k n₁)) → length e ≡ length (take k s₁) → length f ≡ length (take k n₁) →
    s₂ ≡ zeroed 0 k (e ++ drop k s₁) → n₂ ≡ zeroed 0 k (f ++ drop k n₁) → Settled k x t n s₀ n₀ r s₂ n₂
unfolding refused_node
settled k x t n r s₀ n₀ s₁ n₁ e f s₂ n₂ hs hn zs zn a le lf es en =
    record {
      answer = rw (zs, zn, take_zeroed 0 k s₀ hs, take_zeroed 0 k n₀ hn) at a;
      scopes_zero = (rw zs at es) ∙ cleared_again k s₀ hs e (rw zs at le);
      notes_zero = (rw zn at en) ∙ cleared_again k n₀ hn f (rw zn at lf);
    }

-- the tree is accepted and stays, or a node is refused and it is wiped
module _ {k : ℕ} {x t : List ℕ} {n : ℕ} {r : Result (Unit {0}) Flaw} {s₀ n₀ s₁ n₁ : List ℕ} (h : Settled k x (take k t) n s₀ n₀ r s₁ n₁) where
  pub stays : {u : Unit {0}} → r ≡ Ok u → Judging k x t n s₀ n₀ (Ok tt) t s₁ n₁
  stays z =
      record {
        answer = rw (← h.answer, z);
        left_tree = rw (← h.answer, z);
        scopes_zero = h.scopes_zero;
        notes_zero = h.notes_zero;
      }

  pub goes : {f : Flaw} {v : Refusal} {t₁ : List ℕ} → r ≡ Err f → v ≡ refusal_at (take k t) f → t₁ ≡ zeroed 0 k t → Judging k x t n s₀ n₀ (Err v) t₁ s₁ n₁
  goes z e w =
      record {
        answer = rw (← h.answer, z, e);
        left_tree = rw (← h.answer, z, w);
        scopes_zero = h.scopes_zero;
        notes_zero = h.notes_zero;
      }
