-- How a JSON value spells a snapshot of pages, and a text one.
use Rattle.std.specs.Prelude.{◌≡◌, ℕ, List, Some, IsUtf8, codes}
use Rattle.json.specs.Json.{Json, document, string}
use Rattle.atlas_pages.specs.declared.options.PageChoice.{PageChoice}
use Rattle.atlas_pages.specs.declared.options.PageChoice.TheVariants.{FirstFit, FullestFirst}
use Rattle.atlas_pages.specs.declared.options.PageOptions.{PageOptions}
use Rattle.atlas_pages.specs.declared.saving.PagesSnapshot.{PagesSnapshot}
use Rattle.saved_json.specs.JsonFields.{field, natural, whole}
use Rattle.saved_json.specs.Snapshots.{HasSides, IsArrayOf, IsAtlas}

-- the name of the choice among pages
abbrev pub choice_name : PageChoice → List ℕ
choice_name FirstFit = codes "first_fit"
choice_name FullestFirst = codes "fullest_first"

pub record HasPageOptions (json : Json) (options : PageOptions) : Type 0 where
  pub sides : HasSides 9 json options.size options.atlas.alignment options.atlas.vertical_shelves
  pub num_columns : field 9 5 (codes "num_columns") json ≡ Some (whole options.atlas.num_columns)
  pub most_pages : field 9 6 (codes "most_pages") json ≡ Some (natural options.most_pages)
  pub choice : field 9 7 (codes "choice") json ≡ Some (string (choice_name options.choice))

pub record ArePages (json : Json) (snapshot : PagesSnapshot) : Type 0 where
  pub options : HasPageOptions json snapshot.options
  pub pages : IsArrayOf IsAtlas (field 9 8 (codes "pages") json) snapshot.pages.items

-- the bytes are UTF-8, and the JSON value that they are is these saved pages
pub record SpellsPages (bytes : List ℕ) (snapshot : PagesSnapshot) : Type 0 where
  pub utf8 : IsUtf8 bytes
  pub json : Json
  pub document_is : document bytes ≡ Some json
  pub pages_are : ArePages json snapshot
