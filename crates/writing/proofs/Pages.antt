-- The form has room on the page, or it has not.
use mathlib.Core.Path.{◌≡◌, sym, ◌∙◌, ap}
use mathlib.Core.Bool.{Bool, cond}
use mathlib.Core.List.{List, ◌++◌}
use Rattle.std.specs.Prelude.{Option, None, Some}
use Prim.Native.Nat.{ℕ, ◌≤◌, ◌<◌}
use native.Mathlib.Omega.{arith}
use borrow.Author.Tests.{lt-ltb, le-ltb}
use lib.ListN.{length, drop}
use Rattle.writing.specs.Pages.{put_of, page_after}

module _ (form page : List ℕ) (n : ℕ) (e : n ≡ length form) where
  pub no_room : length page < n → (None ≡ put_of form page) × (page ≡ page_after form page)
  no_room h =
      let t = lt-ltb (length page) (length form) (omega (arith, e, h)) in
      (sym (ap (λ (b : Bool). cond {A = Option ℕ} b None (Some (length form))) t), sym (ap (λ (b : Bool). cond b page (form ++ drop (length form) page)) t))

  pub fits : n ≤ length page → length form ≤ length page
  fits h = omega (arith, e, h)

  pub room_left : n ≤ length page → (after : List ℕ) → after ≡ form ++ drop (length form) page → (Some n ≡ put_of form page) × (after ≡ page_after form page)
  room_left h after q =
      let t = le-ltb (length page) (length form) (omega (arith, e, h)) in
      (ap Some e ∙ sym (ap (λ (b : Bool). cond {A = Option ℕ} b None (Some (length form))) t), q ∙ sym (ap (λ (b : Bool). cond b page (form ++ drop (length form) page)) t))
