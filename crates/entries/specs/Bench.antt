-- The bench entries P1 to P12, as one table with one claim: what each call answers, and what the lent buffer holds afterwards.
use Rattle.std.specs.Prelude.{ℕ, ◌≡◌, refl, List, [], ◌∷◌, ◌++◌, map, length, take, replicate}
use Rattle.fields.specs.Number.{number, little, field_at, u16_at, u32_at, le32}
use Rattle.fields.specs.Patch.{patch}
use Rattle.fields.specs.Counting.{joined, any_below}
use Rattle.fields.specs.Rules.{unless, and_then, rules_first}
use Rattle.fields.specs.Turning.{turned, turned_if}
use Rattle.fields.specs.Options.{Options, plain, in_order, is_no_length, is_no_pattern, any_is_no_pattern, are_refused, is_no_order}
use Rattle.fields.specs.Answer.{Answer}
use Rattle.fields.specs.Program.{blocks_of, program_of, share, has, meet, meets_before, numbered}
use Rattle.patterns.specs.Zero.{up_to_zero, has_zero}
use Rattle.patterns.specs.Taking.{takes, takes_any}
use Rattle.patterns.specs.Row.{in_front, patterns_in, options_of}
use Rattle.coff.specs.File.{version, section_count, symbols_begin, symbol_count, optional_size, file_flags, target, magic, entry_point, headers_begin, headers_end, header_at, section_of}
use Rattle.coff.specs.Names.{strings_begin, string_table, is_in_table, name_offset, from_offset, name_at, is_unreadable, name_of, has_unreadable_name}
use Rattle.coff.specs.Kept.{is_kept, keeps}
use Rattle.coff.specs.Refusals.{section_rules, lacks_name, rules_by, share_load, do_meet, meets_earlier, coff_rules}
use Rattle.coff.specs.Reading.{block_of, part_of, coff_source, read_coff}
use Rattle.image.specs.Layout.{image_number, number_bytes, pad_of, span_of, area_of, image_of_block, image_of_blocks, image_of, spans_of, image_length}
use Rattle.image.specs.Order.{turns_numbers, turns_data, numbers_in, area_in, number_in, rewritten, undone, written, undone_from}
use Rattle.image.specs.Converting.{writing, sizing, converting, measuring, conversion_of, output_after, numbers_of_conversion}
use Rattle.image.specs.Reading.{
  zeros,
  size_here,
  load_here,
  run_here,
  area_here,
  bytes_here,
  padding_here,
  block_here,
  after_block,
  table_rules,
  entry_in,
  table_blocks,
  blocks_in,
  image_rules,
  image_source,
  read_image,
  reading_in,
  reading_of,
  numbers_of_reading,
}
use Rattle.image.specs.Asking.{where_is, asking, asking_in, told_of, asked_of, numbers_of_asked}
use Rattle.image.specs.Standing.{stands_at, standing, standing_in}
use Rattle.loader.specs.Placing.{is_outside, placed, sizes_of}
use Rattle.loader.specs.Loading.{outside_rules, loading, loading_image, loading_coff, loading_of, window_after, numbers_of_loading}
use Rattle.compare.specs.Same.{given, received, alike, addresses_of, alike_at, same_placement}
use Rattle.compare.specs.Checking.{comparing, checking, numbers_of_verdict}

-- a call, with its input and the lent buffer as it is before; those that read a file may have a row of patterns in front, and those that read or write an image an order
pub data Call : Type 0 where
  convert : List ℕ → List ℕ → Call
  measure : List ℕ → Call
  read : List ℕ → Call
  ask : List ℕ → ℕ → Call
  stand : List ℕ → ℕ → Call
  load : List ℕ → ℕ → List ℕ → Call
  load_coff : List ℕ → ℕ → List ℕ → Call
  check : List ℕ → List ℕ → Call
  convert_with : List ℕ → List ℕ → List ℕ → Call
  measure_with : List ℕ → List ℕ → Call
  load_coff_with : List ℕ → List ℕ → ℕ → List ℕ → Call
  check_with : List ℕ → List ℕ → List ℕ → Call
  convert_in : ℕ → List ℕ → List ℕ → List ℕ → Call
  read_in : ℕ → List ℕ → Call
  ask_in : ℕ → List ℕ → ℕ → Call
  stand_in : ℕ → List ℕ → ℕ → Call
  load_in : ℕ → List ℕ → ℕ → List ℕ → Call
  check_in : ℕ → List ℕ → List ℕ → List ℕ → Call

-- the numbers answered, and the lent buffer afterwards
pub record Result : Type 0 where
  pub answer : Answer
  pub buffer : List ℕ

-- what a call answers of a file, with options
abbrev converted : Options → List ℕ → List ℕ → Result
converted o file out =
    record {
      answer = numbers_of_conversion (conversion_of (converting o file (length out)));
      buffer = output_after o.order (converting o file (length out)) out;
    }

abbrev measured : Options → List ℕ → Result
measured o file = record { answer = numbers_of_conversion (conversion_of (measuring o file)); buffer = [] }

abbrev loaded_coff : Options → List ℕ → ℕ → List ℕ → Result
loaded_coff o file base window =
    record {
      answer = numbers_of_loading (loading_of (loading_coff o file base (length window)));
      buffer = window_after (loading_coff o file base (length window)) base window;
    }

abbrev checked : Options → List ℕ → List ℕ → Result
checked o file image = record { answer = numbers_of_verdict (checking o file image); buffer = [] }

-- of an image
abbrev loaded : Options → List ℕ → ℕ → List ℕ → Result
loaded o image base window =
    record {
      answer = numbers_of_loading (loading_of (loading_image o image base (length window)));
      buffer = window_after (loading_image o image base (length window)) base window;
    }

-- whoever opens this opens all that it computes with
unfoldable pub result_of : Call → Result
unfolding number little field_at u16_at u32_at le32 patch joined any_below unless and_then rules_first blocks_of program_of share version section_count optional_size file_flags target magic entry_point headers_begin headers_end header_at section_of is_kept keeps section_rules share_load do_meet meets_earlier coff_rules block_of part_of coff_source read_coff image_number number_bytes pad_of span_of area_of image_of_block image_of_blocks image_of spans_of image_length writing converting conversion_of output_after numbers_of_conversion zeros size_here load_here run_here area_here bytes_here padding_here block_here after_block table_rules entry_in table_blocks blocks_in meet meets_before image_rules numbered image_source read_image reading_of numbers_of_reading is_outside placed sizes_of outside_rules loading loading_image loading_of window_after numbers_of_loading has given received alike addresses_of alike_at same_placement comparing checking numbers_of_verdict where_is asking told_of asked_of numbers_of_asked loading_coff measuring stands_at standing is_no_pattern any_is_no_pattern are_refused up_to_zero has_zero takes takes_any in_front patterns_in options_of symbols_begin symbol_count strings_begin string_table is_in_table name_offset from_offset name_at is_unreadable name_of has_unreadable_name lacks_name rules_by sizing is_no_length turned turned_if is_no_order turns_numbers turns_data numbers_in area_in number_in rewritten undone written undone_from reading_in asking_in standing_in
result_of (convert file out) = converted plain file out
result_of (convert_with row file out) = converted (options_of row) file out
result_of (measure file) = measured plain file
result_of (measure_with row file) = measured (options_of row) file
result_of (read image) = record { answer = numbers_of_reading (reading_of (reading_in plain image)); buffer = [] }
result_of (ask image k) = record { answer = numbers_of_asked (asked_of (asking_in plain image k)); buffer = [] }
result_of (stand image place) = record { answer = numbers_of_asked (asked_of (standing_in plain image place)); buffer = [] }
result_of (load image base window) = loaded plain image base window
result_of (load_coff file base window) = loaded_coff plain file base window
result_of (load_coff_with row file base window) = loaded_coff (options_of row) file base window
result_of (check file image) = checked plain file image
result_of (check_with row file image) = checked (options_of row) file image
result_of (convert_in order row file out) = converted (in_order order (options_of row)) file out
result_of (read_in order image) = record { answer = numbers_of_reading (reading_of (reading_in (in_order order plain) image)); buffer = [] }
result_of (ask_in order image k) = record { answer = numbers_of_asked (asked_of (asking_in (in_order order plain) image k)); buffer = [] }
result_of (stand_in order image place) = record { answer = numbers_of_asked (asked_of (standing_in (in_order order plain) image place)); buffer = [] }
result_of (load_in order image base window) = loaded (in_order order plain) image base window
result_of (check_in order row file image) = checked (in_order order (options_of row)) file image

abbrev pub none : ℕ → List ℕ
none n = replicate n 0

-- file A, with its section's flags and load address left open
abbrev pub file_with : ℕ → List ℕ → List ℕ
file_with flags loadAddress =
    -- version, one section; time, symbols; optional size, flags, target
    0xC2 ∷ 0 ∷ 1 ∷ 0 ∷ (none 12
    ++ 0 ∷ 0 ∷ 2 ∷ 0 ∷ 0x99 ∷ 0 ∷
    -- the section: name; run, load, size 5, raw offset 70; relocation; flags; page
    (none 8
    ++ 0 ∷ 0 ∷ 0 ∷ 0x80 ∷ (loadAddress
    ++ 5 ∷ 0 ∷ 0 ∷ 0 ∷ 70 ∷ 0 ∷ 0 ∷ 0 ∷ (none 16
    ++ flags ∷ 0 ∷ 0 ∷ 0 ∷ (none 4
    ++ 0x11 ∷ 0x22 ∷ 0x33 ∷ 0x44 ∷ 0x55 ∷ [])))))

abbrev pub file_a : List ℕ
file_a = file_with 0x20 (0 ∷ 4 ∷ 0 ∷ 0 ∷ [])

-- A with its section not initialised, so that none is kept
abbrev pub file_bare : List ℕ
file_bare = file_with 0x80 (0 ∷ 4 ∷ 0 ∷ 0 ∷ [])

-- the one block of A's image, with the byte behind its data left open
abbrev pub block_with : ℕ → List ℕ
block_with sixth =
    5 ∷ 0 ∷ 0 ∷ 0 ∷ 0 ∷ 4 ∷ 0 ∷ 0 ∷ 0 ∷ 0 ∷ 0 ∷ 0x80 ∷
    0x11 ∷ 0x22 ∷ 0x33 ∷ 0x44 ∷ 0x55 ∷ sixth ∷ 0 ∷ 0 ∷ []

abbrev pub image_with : List ℕ → List ℕ
image_with blocks = none 4 ++ (blocks ++ none 4)

abbrev pub image_a : List ℕ
image_a = image_with (block_with 0)

-- A's block cut in two, the later part first, with that part's lowest byte of its run address left open
abbrev pub image_cut : ℕ → List ℕ
image_cut runLow =
    image_with
    (1 ∷ 0 ∷ 0 ∷ 0 ∷ 4 ∷ 4 ∷ 0 ∷ 0 ∷ runLow ∷ 0 ∷ 0 ∷ 0x80 ∷ 0x55 ∷ 0 ∷ 0 ∷ 0 ∷
    4 ∷ 0 ∷ 0 ∷ 0 ∷ 0 ∷ 4 ∷ 0 ∷ 0 ∷ 0 ∷ 0 ∷ 0 ∷ 0x80 ∷ 0x11 ∷ 0x22 ∷ 0x33 ∷ 0x44 ∷ [])

abbrev pub AA : ℕ → List ℕ
AA n = replicate n 0xAA

pub record Entry : Type 0 where
  pub call : Call
  pub result : Result

-- an entry: the call; code, index and figures; the buffer afterwards
abbrev pub entry : Call → ℕ → ℕ → List ℕ → List ℕ → Entry
entry call code index figures buffer =
    record { call = call; result = record { answer = record { code = code; index = index; figures = figures }; buffer = buffer } }

abbrev pub table : List Entry
table =
    -- P1 to P4
    entry (convert file_a (AA 30)) 0 0 (28 ∷ 1 ∷ []) (image_a ++ AA 2)
    ∷ entry (convert file_a (AA 27)) 15 0 (0 ∷ 0 ∷ []) (AA 27)
    ∷ entry (load image_a 0x400 (AA 8)) 0 0 (5 ∷ []) (0x11 ∷ 0x22 ∷ 0x33 ∷ 0x44 ∷ 0x55 ∷ AA 3)
    ∷ entry (load image_a 0x400 (AA 4)) 29 0 (0 ∷ []) (AA 4)
    ∷ entry (load image_a 0x400 (AA 5)) 0 0 (5 ∷ []) (0x11 ∷ 0x22 ∷ 0x33 ∷ 0x44 ∷ 0x55 ∷ [])
    -- P5 to P7
    ∷ entry (convert (take 74 file_a) (AA 28)) 10 0 (0 ∷ 0 ∷ []) (AA 28)
    ∷ entry (convert file_bare (AA 8)) 0 0 (8 ∷ 0 ∷ []) (none 8)
    ∷ entry (convert (file_with 0x20 (0xFB ∷ 0xFF ∷ 0xFF ∷ 0xFF ∷ [])) (AA 28)) 0 0 (28 ∷ 1 ∷ []) (none 4 ++ (5 ∷ 0 ∷ 0 ∷ 0 ∷ 0xFB ∷ 0xFF ∷ 0xFF ∷ 0xFF ∷ 0 ∷ 0 ∷ 0 ∷ 0x80 ∷ 0x11 ∷ 0x22 ∷ 0x33 ∷ 0x44 ∷ 0x55 ∷ none 7))
    ∷ entry (convert (file_with 0x20 (0xFC ∷ 0xFF ∷ 0xFF ∷ 0xFF ∷ [])) (AA 28)) 11 0 (0 ∷ 0 ∷ []) (AA 28)
    -- P8 to P12
    ∷ entry (check file_a (image_cut 4)) 0 0 [] []
    ∷ entry (check file_a (image_cut 0)) 41 0 [] []
    ∷ entry (read (image_with (block_with 1))) 25 0 (0 ∷ 0 ∷ []) []
    ∷ entry (read (image_with (block_with 0 ++ block_with 0))) 27 1 (0 ∷ 0 ∷ []) []
    ∷ entry (read (none 4 ++ (0xFF ∷ 0xFF ∷ 0xFF ∷ 0xFF ∷ 0 ∷ 4 ∷ 0 ∷ 0 ∷ 0 ∷ 0 ∷ 0 ∷ 0x80 ∷ 0x11 ∷ 0x22 ∷ 0x33 ∷ 0x44 ∷ 0x55 ∷ none 7))) 21 0 (0 ∷ 0 ∷ []) []
    ∷ []

pub bench : map (λ (e : Entry). result_of e.call) table ≡ map (λ (e : Entry). e.result) table
unfolding result_of
bench = refl
