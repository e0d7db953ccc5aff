-- A form on a page: how many bytes are written, and what the page then holds.
use Rattle.std.specs.Prelude.{cond, List, ◌++◌, ℕ, ltb, length, drop, Option, Some, None}

abbrev pub put_of : (form page : List ℕ) → Option ℕ  -- none: the page has no room for it
put_of form page = cond (ltb (length page) (length form)) None (Some (length form))

abbrev pub page_after : (form page : List ℕ) → List ℕ
page_after form page = cond (ltb (length page) (length form)) page (form ++ drop (length form) page)
