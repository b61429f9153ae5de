-- Believed: the image format: a header, the code, the data, and then nothing. Numbers are u32, the lowest byte first. 0 `CYI1`   4 version   8 entry   12 code
-- length C   16 data length D   20 arena pages In version 1 the header ends there, at 24; in version 2 a field follows: 24 stack pages Then C bytes of code,
-- and D bytes of data.
use Rattle.std.specs.Prelude.{◌≡◌, ◌≢◌, ℕ, ◌+◌, ◌*◌, ◌/◌, ◌%◌, ◌^◌, ◌<◌, ◌≤◌, ◌⊎◌, List, [], ◌∷◌, ◌++◌, length, take, drop, slice_index, nat_eq, if◌then◌else◌}

-- What an image is made of: the entry's offset in the code, the code, the data, the pages of the arena and of the stack, and how many bytes a region's block
-- has at most.
pub record Contents : Type 0 where
  pub entry : ℕ
  pub code : List ℕ
  pub statics : List ℕ
  pub pages : ℕ
  pub stack_pages : ℕ
  pub block_limit : ℕ

-- the four bytes of a number, the lowest first
abbrev pub u32_bytes : ℕ → List ℕ
u32_bytes n = n % 2 ^ 8 ∷ n / 2 ^ 8 % 2 ^ 8 ∷ n / 2 ^ 16 % 2 ^ 8 ∷ n / 2 ^ 24 ∷ []

-- `CYI1`
abbrev pub magic : List ℕ
magic = 67 ∷ 89 ∷ 73 ∷ 49 ∷ []

-- the header's length in version 1
abbrev pub first_header_length : ℕ
first_header_length = 24

-- in version 2
abbrev pub header_length : ℕ
header_length = 28

abbrev pub code_limit : ℕ
code_limit = 1048576

abbrev pub data_limit : ℕ
data_limit = 1048576

-- of the arena
abbrev pub page_limit : ℕ
page_limit = 4096

-- and of the stack
abbrev pub stack_page_limit : ℕ
stack_page_limit = 4096

-- the stack that an image of version 1 has, which has no field for it
abbrev pub first_stack_pages : ℕ
first_stack_pages = 256

-- A region's block has at most 4,096 bytes for an image of version 1, and 1,048,576 for one of version 2.
abbrev pub first_block_limit : ℕ
first_block_limit = 4096

abbrev pub second_block_limit : ℕ
second_block_limit = 1048576

-- Limits: there is code, in whole words, at most a megabyte of it and of data, 1 to 4,096 pages of the arena and of the stack; the entry is a word of the
-- code.
pub record Fits (parts : Contents) : Type 0 where
  pub some_code : 0 < length parts.code
  pub code_within : length parts.code ≤ code_limit
  pub whole_words : length parts.code % 4 ≡ 0
  pub data_within : length parts.statics ≤ data_limit
  pub some_pages : 0 < parts.pages
  pub pages_within : parts.pages ≤ page_limit
  pub some_stack : 0 < parts.stack_pages
  pub stack_within : parts.stack_pages ≤ stack_page_limit
  pub entry_aligned : parts.entry % 4 ≡ 0
  pub entry_within : parts.entry < length parts.code

-- Its version: of version 1, where a region's block has at most 4,096 bytes and the stack 256 pages, or of version 2.
abbrev pub IsOfVersion : Contents → Type 0
IsOfVersion parts = ((parts.block_limit ≡ first_block_limit) × (parts.stack_pages ≡ first_stack_pages)) ⊎ (parts.block_limit ≡ second_block_limit)

-- the fields one after the other: those of both versions, those that a version has beside them, the code and the data
abbrev pub laid_out : (version : ℕ) (more : List ℕ) → Contents → List ℕ
laid_out version more parts =
    magic ++ u32_bytes version ++ u32_bytes parts.entry ++ u32_bytes (length parts.code) ++ u32_bytes (length parts.statics) ++ u32_bytes parts.pages ++ more
    ++ parts.code ++ parts.statics

-- The bytes are an image of these parts, within the limits: of version 1, where the stack has 256 pages and a region's block at most 4,096 bytes, or of
-- version 2, which says how many pages the stack has.
pub data IsImage (bytes : List ℕ) (parts : Contents) : Type 0 where
  First : bytes ≡ laid_out 1 [] parts → parts.stack_pages ≡ first_stack_pages → parts.block_limit ≡ first_block_limit → Fits parts → IsImage bytes parts
  Second : bytes ≡ laid_out 2 (u32_bytes parts.stack_pages) parts → parts.block_limit ≡ second_block_limit → Fits parts → IsImage bytes parts

-- the number in the four bytes from an offset on
abbrev pub field : List ℕ → ℕ → ℕ
field bytes at = slice_index bytes at + slice_index bytes (at + 1) * 2 ^ 8 + slice_index bytes (at + 2) * 2 ^ 16 + slice_index bytes (at + 3) * 2 ^ 24

abbrev pub version_field : List ℕ → ℕ
version_field bytes = field bytes 4

abbrev pub entry_field : List ℕ → ℕ
entry_field bytes = field bytes 8

abbrev pub code_field : List ℕ → ℕ
code_field bytes = field bytes 12

abbrev pub data_field : List ℕ → ℕ
data_field bytes = field bytes 16

abbrev pub pages_field : List ℕ → ℕ
pages_field bytes = field bytes 20

abbrev pub stack_field : List ℕ → ℕ
stack_field bytes = field bytes 24

-- The header's length, the pages of the stack and the longest block of a region, by the version: 2 is version 2, and each other number is looked at as
-- version 1.
abbrev pub header_of : List ℕ → ℕ
header_of bytes = (if nat_eq (version_field bytes) 2 then header_length else first_header_length)

abbrev pub stack_of : List ℕ → ℕ
stack_of bytes = (if nat_eq (version_field bytes) 2 then stack_field bytes else first_stack_pages)

abbrev pub limit_of : List ℕ → ℕ
limit_of bytes = (if nat_eq (version_field bytes) 2 then second_block_limit else first_block_limit)

-- the parts that bytes have, if they are an image
abbrev pub parts_of : List ℕ → Contents
parts_of bytes = record {
  entry = entry_field bytes;
  code = take (code_field bytes) (drop (header_of bytes) bytes);
  statics = drop (header_of bytes + code_field bytes) bytes;
  pages = pages_field bytes;
  stack_pages = stack_of bytes;
  block_limit = limit_of bytes;
}

-- The refusals, in the order in which they are looked for. Sums are whole numbers, which do not wrap.

-- Short: under 24 bytes, or fewer bytes than the header and what it speaks of
abbrev pub IsShort : List ℕ → Type 0
IsShort bytes = (length bytes < first_header_length) ⊎ (length bytes < header_of bytes + code_field bytes + data_field bytes)

-- Magic: other first bytes
abbrev pub HasOtherMagic : List ℕ → Type 0
HasOtherMagic bytes = take 4 bytes ≢ magic

-- Version: neither 1 nor 2
abbrev pub HasOtherVersion : List ℕ → Type 0
HasOtherVersion bytes = (version_field bytes ≢ 1) × (version_field bytes ≢ 2)

-- Limit: no code, too much or a part of a word of it; too much data; no page or too many, of the arena or of the stack
abbrev pub IsPastLimit : List ℕ → Type 0
IsPastLimit bytes =
    (code_field bytes ≡ 0) ⊎ (code_limit < code_field bytes) ⊎ (code_field bytes % 4 ≢ 0) ⊎ (data_limit < data_field bytes) ⊎ (pages_field bytes ≡ 0) ⊎
    (page_limit < pages_field bytes) ⊎ (stack_of bytes ≡ 0) ⊎ (stack_page_limit < stack_of bytes)

-- Entry: no multiple of 4, or not in the code
abbrev pub HasBadEntry : List ℕ → Type 0
HasBadEntry bytes = (entry_field bytes % 4 ≢ 0) ⊎ (code_field bytes ≤ entry_field bytes)

-- Trailing: bytes after the data
abbrev pub HasTrailing : List ℕ → Type 0
HasTrailing bytes = header_of bytes + code_field bytes + data_field bytes < length bytes

-- each refusal applies where none before it does
abbrev pub RefusedAsMagic : List ℕ → Type 0
RefusedAsMagic bytes = ¬ IsShort bytes × HasOtherMagic bytes

abbrev pub RefusedAsVersion : List ℕ → Type 0
RefusedAsVersion bytes = ¬ IsShort bytes × ¬ HasOtherMagic bytes × HasOtherVersion bytes

abbrev pub RefusedAsLimit : List ℕ → Type 0
RefusedAsLimit bytes = ¬ IsShort bytes × ¬ HasOtherMagic bytes × ¬ HasOtherVersion bytes × IsPastLimit bytes

abbrev pub RefusedAsEntry : List ℕ → Type 0
RefusedAsEntry bytes = ¬ IsShort bytes × ¬ HasOtherMagic bytes × ¬ HasOtherVersion bytes × ¬ IsPastLimit bytes × HasBadEntry bytes

abbrev pub RefusedAsTrailing : List ℕ → Type 0
RefusedAsTrailing bytes =
    ¬ IsShort bytes × ¬ HasOtherMagic bytes × ¬ HasOtherVersion bytes × ¬ IsPastLimit bytes × ¬ HasBadEntry bytes × HasTrailing bytes

-- an image has one text
abbrev pub HasOneText : Type 0
HasOneText = (bytes other : List ℕ) → (parts : Contents) → IsImage bytes parts → IsImage other parts → bytes ≡ other

-- a text is an image of one thing
abbrev pub HasOneMeaning : Type 0
HasOneMeaning = (bytes : List ℕ) → (parts other : Contents) → IsImage bytes parts → IsImage bytes other → parts ≡ other
