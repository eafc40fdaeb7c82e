-- The document of a store.
use Rattle.serde_json.specs.Data.{Data}
use Rattle.serde_json.specs.View.{view}
use Rattle.json_patch_uses.specs.declared.store.Store.{Store}

abbrev pub document_of : Store → Data
document_of s = view s.document
