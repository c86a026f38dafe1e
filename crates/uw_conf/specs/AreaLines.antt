-- The line of a shared area: its pages, or its bytes (own rule).
use Rattle.std.specs.Prelude.{ℕ, ◌*◌, ◌==◌, nat_lt, nat_le, if◌then◌else◌, List, [], ◌∷◌, ◌++◌, length, codes, Option, None, Some, option_map, Result, Ok, Err}
use Rattle.std.specs.List.{before_first, after_first, list_any}
use Rattle.std.specs.Str.{bytes_eq}
use Rattle.uw_model.specs.declared.conf.CacheConf.{CacheConf}
use Rattle.uw_conf.specs.declared.conf.ConfKind.{ConfKind}
use Rattle.uw_conf.specs.declared.conf.ConfKind.TheVariants as kinds
use Rattle.uw_conf.specs.Caches.{number_in}
use Rattle.uw_conf.specs.Regions.{all_bytes, most_region_bytes}

-- the bytes of a page
abbrev pub page_bytes : ℕ
page_bytes = 4096

-- the bytes of so many pages
abbrev pub size_of_pages : List ℕ → Option ℕ
size_of_pages text = option_map (λ pages. pages * page_bytes) (number_in 1 4096 text)

-- the size of an area, under its key
abbrev pub size_under : List ℕ → List ℕ → Option ℕ
size_under key text =
    if bytes_eq key (codes "pages") then size_of_pages text
    else (if bytes_eq key (codes "size") then number_in 1 16777216 text
    else None)

-- the size of an area in bytes: so many pages, or `pages=`, or `size=` for bytes (61 is the `=`)
abbrev pub size_of_area : List ℕ → Option ℕ
size_of_area text =
    if list_any (λ byte. byte == 61) text then size_under (before_first (λ byte. byte == 61) text) (after_first (λ byte. byte == 61) text)
    else size_of_pages text

-- an area behind the earlier ones, beside the caches so far, unless all regions are too large
abbrev pub with_area_size : List CacheConf → List ℕ → Option ℕ → Result (List ℕ) ConfKind
with_area_size caches areas None = Err kinds.BadValue
with_area_size caches areas (Some size) =
    if nat_lt most_region_bytes (all_bytes caches (areas ++ size ∷ [])) then Err (kinds.TooLarge (all_bytes caches (areas ++ size ∷ [])) most_region_bytes)
    else Ok (areas ++ size ∷ [])

-- the areas with that of a line, the 17th of which is a bad value
abbrev pub with_area : List CacheConf → List ℕ → List ℕ → Result (List ℕ) ConfKind
with_area caches areas text = if nat_le 16 (length areas) then Err kinds.BadValue else with_area_size caches areas (size_of_area text)
