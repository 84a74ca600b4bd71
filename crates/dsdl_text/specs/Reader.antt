-- What a reader and its texts stand for.
use Rattle.std.specs.Prelude.{List, map}
use Rattle.dsdl_text.specs.declared.reader.TextReader.{TextReader}
use Rattle.dsdl_text.specs.declared.texts.Texts.{Texts}
use Rattle.dsdl_text.specs.Layout.{DataType}
use Rattle.dsdl_text.specs.Sections.{latest_of, types_of}
use Rattle.dsdl_text.specs.Text.{Text}

-- the text as far as it was read
abbrev pub text_of : TextReader → Text
text_of reader = record {
  earlier = types_of reader.earlier.items;
  latest = latest_of (types_of reader.earlier.items) reader.latest;
  names = map (λ name. name.items) reader.names.items;
}

-- the types of the text
abbrev pub data_types : Texts → List DataType
data_types texts = types_of texts.sections.items
